-- The laws of what a forge's calls make.
use Rattle.std.specs.Prelude.{◌≡◌, ℕ, ◌<◌, Bool, true, false, List, ◌++◌, length}
use Rattle.atom_core.specs.Value.{object, sequence, Lead, Value, Parts, holding}
use Rattle.atom_core.specs.Spelling.{lead_bytes, atom_of, part_of, parts_of}
use Rattle.atom_forge.specs.declared.level.Holds.{Holds}
use Rattle.atom_forge.specs.declared.level.Holds.TheVariants.{Properties, Events}
use Rattle.atom_forge.specs.declared.level.Level.{Level}
use Rattle.atom_forge.specs.declared.mark.Mark.{Mark}
use Rattle.atom_forge.specs.Forged.{Forged, laid, opening, with_piece, with_container, closed, up_to}

-- a forge in which a container was opened, filled with the bytes of these parts, and closed
abbrev pub filled : Forged → Holds → List ℕ → Parts → Forged
filled forge holds begun parts = closed (with_piece (with_container forge holds begun) (parts_of parts) false)

-- it holds the container's atom after what it held, and its other containers are open as before
pub record ContainerIsAtom : Type 0 where
  pub object_is : (forge : Forged) (id kind : ℕ) (parts : Parts)
      → filled forge Properties (opening 9 id kind) parts ≡ with_piece forge (atom_of (holding (object id kind) parts)) false
  pub sequence_is : (forge : Forged) (parts : Parts) → filled forge Events (opening 10 0 0) parts ≡ with_piece forge (atom_of (holding sequence parts)) false

-- the mark was given when the forge held this
pub record IsMarkOf (mark : Mark) (forge : Forged) : Type 0 where
  pub len : mark.len ≡ length forge.bytes
  pub levels : mark.levels ≡ length forge.levels
  pub waits : mark.waits ≡ forge.waits

abbrev pub BackIsBefore : Type 0
BackIsBefore =
    (mark : Mark) (forge : Forged) (bytes : List ℕ) (levels : List Level) (waits : Bool) → IsMarkOf mark forge
    → up_to mark (record { room = forge.room; bytes = forge.bytes ++ bytes; levels = forge.levels ++ levels; waits = waits }) ≡ forge

-- within a container, a key or a time and then the atom of a value are the part of both
abbrev pub PartIsPut : Type 0
PartIsPut =
    (forge : Forged) (lead : Lead) (value : Value) → 0 < length forge.levels
    → with_piece (with_piece forge (lead_bytes lead) true) (laid forge.levels (atom_of value)) false ≡ with_piece forge (part_of lead value) false
