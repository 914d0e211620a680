-- The triples of a bundle, and why it may have none.
use Rattle.std.specs.Prelude.{◌≡◌, ◌≢◌, ◌≤◌, ◌<◌, ◌⊎◌, ℕ, IsTrue, List, [], ◌∷◌, ◌++◌, length, None, Some}
use Rattle.lv_outside.specs.Count.{Rose}
use Rattle.lv_outside.specs.World.{VaultState, LeavesFiles}
use Rattle.triple_store.specs.declared.term.Triple.{Triple}
use Rattle.turtle_document.specs.Answer.{Outcome, IsReadAs}
use Rattle.turtle_document.specs.Answer.Outcome.{document}
use Rattle.turtle_document.specs.Meaning.{beginning}
use Rattle.turtle_read.specs.Answers.{Tells}
use Rattle.turtle_read.specs.declared.fault.TurtleFault.{TurtleFault}
use Rattle.turtle_read.specs.declared.fault.TurtleFault.TheVariants as turtle
use Rattle.session_load.specs.Names.{manifest, path_of, file_iri, files_named}
use Rattle.session_load.specs.declared.bundle_files.TheConstants.{MOST_FILE_BYTES}
use Rattle.session_load.specs.declared.fault.LoadFault.{LoadFault}
use Rattle.session_load.specs.declared.fault.LoadFault.TheVariants.{Missing, ReadFailed, TooLong, Turtle, NoMemory}

-- a vault some calls later: what is known stays known and as it is, and no count falls
pub record IsLater (before after : VaultState) : Type 0 where
  pub known : IsTrue before.tells → IsTrue after.tells
  pub files : LeavesFiles before after
  pub faults : before.faults ≤ after.faults
  pub absences : before.absences ≤ after.absences
  pub longs : before.longs ≤ after.longs

-- the bytes of a file of the vault, if its files are known
pub record IsFile (v : VaultState) (path bytes : List ℕ) : Type 0 where
  pub short : length bytes ≤ MOST_FILE_BYTES
  pub found : IsTrue v.tells → v.file path ≡ Some bytes

-- a bundle in a folder of the vault: its number and its path
pub record Place : Type 0 where
  pub number : ℕ
  pub path : List ℕ

-- how bytes are read as a file of the bundle, after some rows
abbrev pub Reads : Place → List ℕ → List Triple → List ℕ → Outcome → Type 0
Reads at name before bytes = IsReadAs (beginning (file_iri at.number name) before) bytes

-- a file of the bundle is a document that leads from some rows to others
pub record Adds (v : VaultState) (at : Place) (name : List ℕ) (before after : List Triple) : Type 0 where
  pub bytes : List ℕ
  pub file : IsFile v (path_of at.path name) bytes
  pub read : Reads at name before bytes (document after)

-- files are read one after another
abbrev pub AddAll : VaultState → Place → List (List ℕ) → List Triple → List Triple → Type 0
AddAll v at [] before after = after ≡ before
AddAll v at (name ∷ names) before after = (between : List Triple) × Adds v at name before between × AddAll v at names between after

-- the rows of a bundle: those of its manifest, then those of the files that the manifest names
pub record HasRows (v : VaultState) (at : Place) (rows : List Triple) : Type 0 where
  pub first : List Triple
  pub named : Adds v at manifest [] first
  pub all : AddAll v at (files_named at.number first) first rows

-- how the reader's fault is told of a file
abbrev pub cause : List ℕ → TurtleFault → LoadFault
cause path turtle.NoMemory = NoMemory
cause path fault = Turtle path fault

-- why bytes are no document: the cause that is told
abbrev pub IsMisread : List ℕ → (Outcome → Type 0) → LoadFault → Type 0
IsMisread path Has (Turtle at fault) = (at ≡ path) × (fault ≢ turtle.NoMemory) × Tells Has fault
IsMisread path Has NoMemory = Unit {0}
IsMisread path Has other = ⊥

-- why a file of the bundle can't be read after some rows
abbrev pub IsRefused : VaultState → VaultState → Place → List ℕ → List Triple → LoadFault → Type 0
IsRefused v v' at name before (Missing path) =
    (path ≡ path_of at.path name) × Rose v.absences v'.absences × (IsTrue v.tells → v.file path ≡ None)
IsRefused v v' at name before (ReadFailed path) = (path ≡ path_of at.path name) × Rose v.faults v'.faults
IsRefused v v' at name before (TooLong path) =
    (path ≡ path_of at.path name) × Rose v.longs v'.longs
    × (IsTrue v.tells → (bytes : List ℕ) × (v.file path ≡ Some bytes) × (MOST_FILE_BYTES < length bytes))
IsRefused v v' at name before (Turtle path fault) =
    (bytes : List ℕ) × IsFile v path bytes × IsMisread (path_of at.path name) (Reads at name before bytes) (Turtle path fault)
IsRefused v v' at name before NoMemory = Unit {0}

-- one of some files can't be read, and those before it can
pub record StopsAt (v v' : VaultState) (at : Place) (names : List (List ℕ)) (first : List Triple) (fault : LoadFault) : Type 0 where
  pub front : List (List ℕ)
  pub name : List ℕ
  pub back : List (List ℕ)
  pub order : names ≡ front ++ name ∷ back
  pub before : List Triple
  pub read : AddAll v at front first before
  pub refused : IsRefused v v' at name before fault

-- the manifest can be read, and one of the files that it names can't
pub record StopsBehind (v v' : VaultState) (at : Place) (fault : LoadFault) : Type 0 where
  pub first : List Triple
  pub named : Adds v at manifest [] first
  pub stops : StopsAt v v' at (files_named at.number first) first fault

abbrev pub place : ℕ → List ℕ → Place
place number path = record { number = number; path = path }

-- what a bundle's answers say
abbrev pub IsBundle : VaultState → List ℕ → ℕ → List Triple → Type 0
IsBundle v path number rows = HasRows v (place number path) rows

-- the first file that can't be read is the cause. Memory may be wanted anywhere
abbrev pub IsUnloaded : VaultState → VaultState → List ℕ → ℕ → LoadFault → Type 0
IsUnloaded v v' path number NoMemory = Unit {0}
IsUnloaded v v' path number fault =
    IsRefused v v' (place number path) manifest [] fault ⊎ StopsBehind v v' (place number path) fault
