-- One state file: its triples and its states, and why it may have none.
use Rattle.std.specs.Prelude.{◌≡◌, ℕ, ◌≤◌, ◌<◌, IsTrue, List, [], ◌++◌, length, codes, decimal, None, Some}
use Rattle.lv_outside.specs.Count.{Rose}
use Rattle.lv_outside.specs.World.{VaultState}
use Rattle.session_load.specs.Bundle.{IsMisread}
use Rattle.session_load.specs.declared.fault.LoadFault.{LoadFault}
use Rattle.session_load.specs.declared.fault.LoadFault.TheVariants.{Missing, ReadFailed, TooLong, Turtle, NoMemory}
use Rattle.state_file.specs.declared.saved.Saved.{Saved}
use Rattle.triple_store.specs.declared.term.Triple.{Triple}
use Rattle.turtle_document.specs.Answer.{Outcome, IsReadAs}
use Rattle.turtle_document.specs.Answer.Outcome.{document}
use Rattle.turtle_document.specs.Meaning.{beginning}
use Rattle.session_states.specs.Rules.{verdict, ArePassed}
use Rattle.session_states.specs.declared.fault.StatesFault.{StatesFault}
use Rattle.session_states.specs.declared.fault.StatesFault.TheVariants.{Load, Broken, UridFull}
use Rattle.session_states.specs.declared.one_file.TheConstants.{MOST_STATE_FILE_BYTES}
use Rattle.session_states.specs.declared.restore.Restore.{Restore}

-- the base IRI of the state file with this number, from 0 in order of first use
abbrev pub base_of : ℕ → List ℕ
base_of number = codes "file:///state/" ++ decimal number

-- how bytes are read as that file
abbrev pub Reads : ℕ → List ℕ → Outcome → Type 0
Reads number bytes = IsReadAs (beginning (base_of number) []) bytes

-- the bytes of a file of the vault, if its files are known
pub record IsFile (v : VaultState) (path bytes : List ℕ) : Type 0 where
  pub short : length bytes ≤ MOST_STATE_FILE_BYTES
  pub found : IsTrue v.tells → v.file path ≡ Some bytes

-- the file is a document with these rows
pub record HasRows (v : VaultState) (number : ℕ) (path : List ℕ) (rows : List Triple) : Type 0 where
  pub bytes : List ℕ
  pub file : IsFile v path bytes
  pub read : Reads number bytes (document rows)

-- why the file can't be read, or is no document
abbrev pub IsUnread : VaultState → VaultState → ℕ → List ℕ → LoadFault → Type 0
IsUnread v v' number path (Missing at) =
    (at ≡ path) × Rose v.absences v'.absences × (IsTrue v.tells → v.file path ≡ None)
IsUnread v v' number path (ReadFailed at) = (at ≡ path) × Rose v.faults v'.faults
IsUnread v v' number path (TooLong at) =
    (at ≡ path) × Rose v.longs v'.longs
    × (IsTrue v.tells → (bytes : List ℕ) × (v.file path ≡ Some bytes) × (MOST_STATE_FILE_BYTES < length bytes))
IsUnread v v' number path (Turtle at fault) =
    (bytes : List ℕ) × IsFile v path bytes × IsMisread path (Reads number bytes) (Turtle at fault)
IsUnread v v' number path NoMemory = Unit {0}

-- the file gives these states, and these URIs then have numbers
pub record GivesStates (v : VaultState) (restores : List Restore) (number : ℕ) (path : List ℕ) (urids : List (List ℕ)) (saves : List Saved) (after : List (List ℕ)) : Type 0 where
  pub rows : List Triple
  pub has : HasRows v number path rows
  pub passed : ArePassed path restores rows urids saves after

-- the file's rows give none, for this first cause
pub record IsJudged (v : VaultState) (restores : List Restore) (number : ℕ) (path : List ℕ) (urids : List (List ℕ)) (fault : StatesFault) : Type 0 where
  pub rows : List Triple
  pub has : HasRows v number path rows
  pub cause : verdict path restores rows urids ≡ Some fault

-- why the file gives no states
abbrev pub IsRefused : VaultState → VaultState → List Restore → ℕ → List ℕ → List (List ℕ) → StatesFault → Type 0
IsRefused v v' restores number path urids (Load fault) = IsUnread v v' number path fault
IsRefused v v' restores number path urids (Broken at rule) = IsJudged v restores number path urids (Broken at rule)
IsRefused v v' restores number path urids UridFull = IsJudged v restores number path urids UridFull
