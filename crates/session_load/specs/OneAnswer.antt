-- What the files of a known vault make of a bundle: one answer.
use Rattle.std.specs.Prelude.{◌≡◌, ℕ, IsTrue, List, Result, Ok, Err}
use Rattle.lv_outside.specs.World.{VaultState}
use Rattle.triple_store.specs.declared.term.Triple.{Triple}
use Rattle.session_load.specs.Bundle.{IsBundle, IsUnloaded}
use Rattle.session_load.specs.declared.fault.LoadFault.{LoadFault}
use Rattle.session_load.specs.declared.fault.LoadFault.TheVariants.{ReadFailed, NoMemory}

-- a fault that the files give: neither a read that failed nor want of memory
abbrev pub IsOfFiles : LoadFault → Type 0
IsOfFiles (ReadFailed path) = ⊥
IsOfFiles NoMemory = ⊥
IsOfFiles fault = Unit {0}

-- the files give these rows, or this first fault, whatever the vault counts
abbrev pub IsLoadedAs : VaultState → List ℕ → ℕ → Result (List Triple) LoadFault → Type 0
IsLoadedAs v path number (Ok rows) = IsBundle v path number rows
IsLoadedAs v path number (Err fault) = IsOfFiles fault × ((after : VaultState) × IsUnloaded v after path number fault)

-- the files of a known vault give a bundle at most one answer
abbrev pub HasOneAnswer : Type 0
HasOneAnswer = (v : VaultState) (path : List ℕ) (number : ℕ) (a b : Result (List Triple) LoadFault) → IsTrue v.tells
    → IsLoadedAs v path number a → IsLoadedAs v path number b → a ≡ b

-- and at least one
abbrev pub HasSomeAnswer : Type 0
HasSomeAnswer = (v : VaultState) (path : List ℕ) (number : ℕ) → IsTrue v.tells → (a : Result (List Triple) LoadFault) × IsLoadedAs v path number a
