-- The laws of values, bytes and answers.
use Rattle.std.specs.Prelude.{◌≡◌, List, ℕ}
use Rattle.atom_core.specs.declared.fault.AtomFault.{AtomFault}
use Rattle.atom_core.specs.Value.{Value}
use Rattle.atom_core.specs.Spelling.{atom_of}
use Rattle.atom_core.specs.Fits.{Fits}
use Rattle.atom_core.specs.Answer.{Spells, IsAtom, HasFault, most_containers}

-- no bytes spell two values
abbrev pub OneValue : Type 0
OneValue = (bytes : List ℕ) (v w : Value) → Spells bytes v → Spells bytes w → v ≡ w

-- each value within the limits has a spelling, and no two
pub record OneSpelling : Type 0 where
  pub some : (v : Value) → Fits most_containers v → Spells (atom_of v) v
  pub only : (v : Value) (a b : List ℕ) → Spells a v → Spells b v → a ≡ b

-- no bytes have two answers: what spells a value has no fault, and there is one first fault (check finds an answer of any bytes)
pub record OneAnswer : Type 0 where
  pub value : (bytes : List ℕ) (fault : AtomFault) → IsAtom bytes → HasFault bytes fault → ⊥
  pub fault : (bytes : List ℕ) (f g : AtomFault) → HasFault bytes f → HasFault bytes g → f ≡ g
