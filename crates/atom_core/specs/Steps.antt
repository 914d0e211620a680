-- What the reader's steps say: a part that is whole, or a container to be entered. No public clause rests on them.
use Rattle.std.specs.Prelude.{◌≡◌, ℕ, pred, ◌+◌, ◌<◌, ◌≤◌, true, List}
use Rattle.atom_core.specs.declared.fault.AtomFault.{AtomFault}
use Rattle.atom_core.specs.declared.form.Form.{Form}
use Rattle.atom_core.specs.declared.part.Step.{Step}
use Rattle.atom_core.specs.declared.part.Step.TheVariants.{Past, Into}
use Rattle.atom_core.specs.Form.{is_container}
use Rattle.atom_core.specs.Place.{Stands}
use Rattle.atom_core.specs.Value.{Value, Lead, Parts}
use Rattle.atom_core.specs.Spelling.{parts_of, part_of}
use Rattle.atom_core.specs.Fits.{Fits, PartsFit, LeadFits}
use Rattle.atom_core.specs.Parts.{Inner, PartFault}

-- parts of this form stand here
abbrev pub ArePartsThere : ℕ → List ℕ → Form → ℕ → ℕ → Type 0
ArePartsThere n bytes form from to = (parts : Parts) × PartsFit n form parts × Stands bytes from to (parts_of parts)

-- a part of a container of this form stands here
abbrev pub IsPartThere : ℕ → List ℕ → Form → ℕ → ℕ → Type 0
IsPartThere n bytes form from to =
    (lead : Lead) × (value : Value) × LeadFits form lead × Fits (pred n) value × Stands bytes from to (part_of lead value)

-- The atom of the part that begins at `at` is a container whose parts are from `first` to `last`: with them the part is whole, and a fault
-- of theirs is the part's.
pub record Enters (n : ℕ) (bytes : List ℕ) (form : Form) (at end : ℕ) (within : Form) (first last : ℕ) : Type 0 where
  pub holds : is_container within ≡ true
  pub begins : at + 8 ≤ first
  pub ends : first ≤ last
  pub inside : last ≤ end
  pub deep : 0 < n
  pub whole : ArePartsThere (pred n) bytes within first last → IsPartThere n bytes form at last
  pub fault : (fault : AtomFault) → Inner n bytes within first last fault → PartFault n bytes form at end fault

abbrev pub IsStep : ℕ → List ℕ → Form → ℕ → ℕ → Step → Type 0
IsStep n bytes form at end (Past next) = (at + 8 ≤ next) × (next ≤ end) × (0 < n) × IsPartThere n bytes form at next
IsStep n bytes form at end (Into container first) = Enters n bytes form at end container.form first container.end
