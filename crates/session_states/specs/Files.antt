-- The state files of a session, read one after the other.
use Rattle.std.specs.Prelude.{◌≡◌, ℕ, zero, suc, ◌<◌, List, [], ◌∷◌, ◌++◌, length, slice_index_or}
use Rattle.lv_outside.specs.World.{VaultState}
use Rattle.session_load.specs.declared.fault.LoadFault.TheVariants.{NoMemory}
use Rattle.state_file.specs.declared.saved.Saved.{Saved}
use Rattle.session_states.specs.File.{GivesStates, IsRefused}
use Rattle.session_states.specs.declared.fault.StatesFault.{StatesFault}
use Rattle.session_states.specs.declared.fault.StatesFault.TheVariants.{Load}
use Rattle.session_states.specs.declared.restore.Restore.{Restore}

-- the path at a place
abbrev pub path_at : List (List ℕ) → ℕ → List ℕ
path_at paths number = slice_index_or paths number []

-- the first files give these states, file by file, and these URIs then have numbers
abbrev pub GiveStates : VaultState → List Restore → List (List ℕ) → List (List ℕ) → ℕ → List (List Saved) → List (List ℕ) → Type 0
GiveStates v restores paths urids zero files after = (files ≡ []) × (after ≡ urids)
GiveStates v restores paths urids (suc number) files after =
    (front : List (List Saved)) × (saves : List Saved) × (between : List (List ℕ))
    × GiveStates v restores paths urids number front between
    × GivesStates v restores number (path_at paths number) between saves after
    × (files ≡ front ++ saves ∷ [])

-- one of the files gives no states, and those before it do
pub record StopsAt (v v' : VaultState) (restores : List Restore) (paths urids : List (List ℕ)) (fault : StatesFault) : Type 0 where
  pub number : ℕ
  pub within : number < length paths
  pub files : List (List Saved)
  pub between : List (List ℕ)
  pub before : GiveStates v restores paths urids number files between
  pub refused : IsRefused v v' restores number (path_at paths number) between fault
