-- The limits of a value: what its numbers and texts may be, and how deep it nests.
use Rattle.std.specs.Prelude.{◌≡◌, ℕ, pred, ◌^◌, ◌<◌, ◌==◌, not, Bool, List, length, IsTrue, IsUtf8, FitsSigned}
use Rattle.std.specs.List.{list_all}
use Rattle.std.specs.Int.{w32, w64}
use Rattle.atom_core.specs.declared.form.Form.{Form}
use Rattle.atom_core.specs.declared.form.Form.TheVariants.{Any, Tuple, Object, Sequence}
use Rattle.atom_core.specs.Form.{form_of, is_multiple}
use Rattle.atom_core.specs.Value.{Plain, int, long, boolean, urid, string, literal, vector, float, double, fixed, uri, path, other, Container, tuple, object, sequence, Lead, bare, keyed, timed, Value, plain, holding, Parts, none, part}
use Rattle.atom_core.specs.Spelling.{plain_body, body_of, container_kind}

abbrev pub has_no_zero : List ℕ → Bool
has_no_zero text = list_all (λ c. not (c == 0)) text

-- UTF-8 without a zero byte
abbrev pub IsText : List ℕ → Type 0
IsText text = IsUtf8 text × IsTrue (has_no_zero text)

abbrev pub PlainFits : Plain → Type 0
PlainFits (int z) = FitsSigned w32 z
PlainFits (long z) = FitsSigned w64 z
PlainFits (boolean z) = FitsSigned w32 z
PlainFits (urid n) = n < 2 ^ 32
PlainFits (string text) = IsText text
PlainFits (literal datatype lang text) = (datatype < 2 ^ 32) × (lang < 2 ^ 32) × IsText text
PlainFits (vector size kind elements) = (size < 2 ^ 32) × (kind < 2 ^ 32) × IsTrue (is_multiple (length elements) size)
PlainFits (float bytes) = length bytes ≡ 4
PlainFits (double bytes) = length bytes ≡ 8
PlainFits (fixed z) = FitsSigned w64 z
PlainFits (uri text) = IsText text
PlainFits (path text) = IsText text
PlainFits (other kind bytes) = (kind < 2 ^ 32) × (form_of kind ≡ Any)

abbrev pub ContainerFits : Container → Type 0
ContainerFits tuple = Unit {0}
ContainerFits (object id kind) = (id < 2 ^ 32) × (kind < 2 ^ 32)
ContainerFits sequence = Unit {0}

-- a tuple's parts have nothing before their atoms, an object's a key and a context, a sequence's a time
abbrev pub LeadFits : Form → Lead → Type 0
LeadFits Tuple bare = Unit {0}
LeadFits Object (keyed key context) = (key < 2 ^ 32) × (context < 2 ^ 32)
LeadFits Sequence (timed time) = FitsSigned w64 time
LeadFits form lead = ⊥

-- a value with no more than n containers within each other, and a container's parts
abbrev mutual
  pub Fits : ℕ → Value → Type 0
  Fits n (plain p) = PlainFits p × (length (plain_body p) < 2 ^ 32)
  Fits n (holding container parts) =
      ContainerFits container × (length (body_of (holding container parts)) < 2 ^ 32) × PartsFit n (form_of (container_kind container)) parts

  pub PartsFit : ℕ → Form → Parts → Type 0
  PartsFit n form none = Unit {0}
  PartsFit n form (part lead value parts) = (0 < n) × LeadFits form lead × Fits (pred n) value × PartsFit n form parts
