-- The containers that are open within each other, and the bytes that are written of them (LV2 atom, "Atom Types" and `LV2_Atom`).
use Rattle.std.specs.Prelude.{ℕ, ◌-◌, ◌^◌, ◌<◌, ◌≤◌, Bool, false, List, [], ◌∷◌, ◌++◌, length, Option, Some, None, IfSome, IsSome, is_some}
use Rattle.atom_core.specs.Value.{Container, tuple, object, sequence, Lead, Parts}
use Rattle.atom_core.specs.Spelling.{u32, container_kind, container_head, lead_bytes, parts_of}
use Rattle.atom_core.specs.declared.form.Form.{Form}
use Rattle.atom_core.specs.declared.form.Form.TheVariants.{Object, Sequence}
use Rattle.atom_core.specs.Fits.{PartsFit, LeadFits}
use Rattle.atom_core.specs.Answer.{most_containers}
use Rattle.atom_forge.specs.declared.level.Holds.{Holds}
use Rattle.atom_forge.specs.declared.level.Holds.TheVariants.{Properties, Events}
use Rattle.atom_forge.specs.declared.level.Level.{Level}

-- a container that is open: what it holds and says of itself, its finished parts, and the key or the time that waits for its atom
pub record Opened : Type 0 where
  pub holds : Holds
  pub container : Container
  pub parts : Parts
  pub waiting : Option Lead

-- properties are in an object, whose id and type are numbers of 32 bits, and events in a sequence
abbrev pub OpensAs : Holds → Container → Type 0
OpensAs Properties (object id kind) = (id < 2 ^ 32) × (kind < 2 ^ 32)
OpensAs Events sequence = Unit {0}
OpensAs Properties tuple = ⊥
OpensAs Properties sequence = ⊥
OpensAs Events tuple = ⊥
OpensAs Events (object id kind) = ⊥

-- the form of a container that holds this
abbrev pub form_in : Holds → Form
form_in Properties = Object
form_in Events = Sequence

-- no more than n containers may be within each other, this one among them
pub record IsOpened (n : ℕ) (opened : Opened) : Type 0 where
  pub opens : OpensAs opened.holds opened.container
  pub parts : PartsFit n (form_in opened.holds) opened.parts
  pub waiting : IfSome opened.waiting (LeadFits (form_in opened.holds))

-- in the innermost container a key or a time waits, if any is open
abbrev pub waits_in : List Opened → Bool
waits_in [] = false
waits_in (o ∷ outer) = is_some o.waiting

abbrev pub AwaitsAtom : List Opened → Type 0
AwaitsAtom [] = Unit {0}
AwaitsAtom (o ∷ outer) = IsSome o.waiting

-- innermost first, each is the atom of a part of the one around it, whose key or time waits
abbrev pub AreOpened : List Opened → Type 0
AreOpened [] = Unit {0}
AreOpened (o ∷ outer) = (length outer ≤ most_containers) × IsOpened (most_containers - length outer) o × AwaitsAtom outer × AreOpened outer

abbrev pub waiting_bytes : Option Lead → List ℕ
waiting_bytes None = []
waiting_bytes (Some lead) = lead_bytes lead

-- how a container begins: its size is zero while it is open
abbrev pub beginning : Container → List ℕ
beginning container = u32 0 ++ (u32 (container_kind container) ++ container_head container)

abbrev pub opened_bytes : Opened → List ℕ
opened_bytes o = beginning o.container ++ (parts_of o.parts ++ waiting_bytes o.waiting)

abbrev pub stack_bytes : List Opened → List ℕ
stack_bytes [] = []
stack_bytes (o ∷ outer) = stack_bytes outer ++ opened_bytes o

-- what they hold, and where their headers begin, outermost first
abbrev pub stack_levels : List Opened → List Level
stack_levels [] = []
stack_levels (o ∷ outer) = stack_levels outer ++ record { holds = o.holds; at = length (stack_bytes outer) } ∷ []
