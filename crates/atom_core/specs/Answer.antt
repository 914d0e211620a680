-- Which answer bytes have: they spell a value, or they have a first fault.
use Rattle.std.specs.Prelude.{◌≡◌, ℕ, ◌<◌, nat_lt, ◌||◌, Bool, List, length, MatchBool, ◌⊎◌}
use Rattle.atom_core.specs.declared.fault.AtomFault.{AtomFault}
use Rattle.atom_core.specs.declared.fault.AtomFault.TheVariants.{Short, BadSize}
use Rattle.atom_core.specs.Value.{Value}
use Rattle.atom_core.specs.Spelling.{atom_of}
use Rattle.atom_core.specs.Fits.{Fits}
use Rattle.atom_core.specs.Content.{end_at}
use Rattle.atom_core.specs.Parts.{AtomFaultBy, PartsFault, StandsAtom}

-- in how many containers an atom may stand
abbrev pub most_containers : ℕ
most_containers = 16

-- the bytes spell this value
pub record Spells (bytes : List ℕ) (value : Value) : Type 0 where
  pub fits : Fits most_containers value
  pub bytes_are : bytes ≡ atom_of value

-- the bytes spell a value
abbrev pub IsAtom : List ℕ → Type 0
IsAtom bytes = (value : Value) × Spells bytes value

-- fewer bytes than a header, or than the header says
abbrev pub is_short : List ℕ → Bool
is_short bytes = nat_lt (length bytes) 8 || nat_lt (length bytes) (end_at bytes 0)

-- the first fault: the bytes are short; the atom has a fault; or bytes follow it
abbrev pub HasFault : List ℕ → AtomFault → Type 0
HasFault bytes fault =
    MatchBool (is_short bytes) (fault ≡ Short)
    (AtomFaultBy (PartsFault most_containers bytes) bytes 0 fault
    ⊎ (StandsAtom most_containers bytes 0 (end_at bytes 0) × (end_at bytes 0 < length bytes) × (fault ≡ BadSize (end_at bytes 0))))
