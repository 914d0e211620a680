-- What a session restores, or the first cause why it can't be had.
use Rattle.std.specs.Prelude.{◌≡◌, ℕ, IsTrue, List, [], map, length, Option, None, Some, option_map, option_and_then, unwrap_or, slice_get, Result, Ok, Err}
use Rattle.std.specs.List.{position}
use Rattle.std.specs.Str.{bytes_eq}
use Rattle.lv_outside.specs.World.{VaultState}
use Rattle.session_load.specs.OneAnswer.{IsOfFiles}
use Rattle.session_load.specs.declared.fault.LoadFault.TheVariants.{Missing, ReadFailed, TooLong, Turtle, NoMemory}
use Rattle.session_script.specs.declared.session.Session.{Session}
use Rattle.state_file.specs.declared.saved.Saved.{Saved}
use Rattle.state_store.specs.declared.prop.Prop.{Prop}
use Rattle.session_states.specs.Files.{GiveStates, StopsAt}
use Rattle.session_states.specs.Restores.{restores_of, paths_in}
use Rattle.session_states.specs.declared.fault.StatesFault.{StatesFault}
use Rattle.session_states.specs.declared.fault.StatesFault.TheVariants.{Load, Broken, UridFull}
use Rattle.session_states.specs.declared.restore.Restore.{Restore}

-- the states of the file at a path; none where it isn't one of these
abbrev pub states_at : List (List ℕ) → List (List Saved) → List ℕ → List Saved
states_at paths files path = unwrap_or (option_and_then (λ number. slice_get files number) (position (bytes_eq path) paths)) []

-- the properties of the state at a place; none of no state
abbrev pub props_at : List Saved → ℕ → List (ℕ × Prop)
props_at saves place = unwrap_or (option_map (λ (saved : Saved). saved.props) (slice_get saves place)) []

-- the properties that are restored
abbrev pub restored : List (List ℕ) → List (List Saved) → Restore → List (ℕ × Prop)
restored paths files restore = props_at (states_at paths files restore.path) restore.place

-- the state files of a session, in order of first use
abbrev pub paths_of : Session → List (List ℕ)
paths_of session = paths_in (restores_of session)

-- all files give states: these are the properties of each restore, in order of the actions, and these URIs then have numbers
pub record HasStates (v : VaultState) (session : Session) (urids : List (List ℕ)) (states : List (List (ℕ × Prop))) (after : List (List ℕ)) : Type 0 where
  pub files : List (List Saved)
  pub read : GiveStates v (restores_of session) (paths_of session) urids (length (paths_of session)) files after
  pub given : states ≡ map (restored (paths_of session) files) (restores_of session)

-- the first file that gives no states is the cause. Memory may be wanted anywhere
abbrev pub HasNoStates : VaultState → VaultState → Session → List (List ℕ) → StatesFault → Type 0
HasNoStates v v' session urids (Load NoMemory) = Unit {0}
HasNoStates v v' session urids fault = StopsAt v v' (restores_of session) (paths_of session) urids fault

-- a cause that the files give: neither a read that failed nor want of memory
abbrev pub IsOfStates : StatesFault → Type 0
IsOfStates (Load fault) = IsOfFiles fault
IsOfStates fault = Unit {0}

-- the properties of each restore, and the URIs that then have numbers
abbrev pub Answer : Type 0
Answer = Result (List (List (ℕ × Prop)) × List (List ℕ)) StatesFault

-- the files of a vault give this answer, whatever the vault counts
abbrev pub IsAnswer : VaultState → Session → List (List ℕ) → Answer → Type 0
IsAnswer v session urids (Ok (states, after)) = HasStates v session urids states after
IsAnswer v session urids (Err fault) = IsOfStates fault × ((v' : VaultState) × HasNoStates v v' session urids fault)

-- the files of a known vault give at most one answer
abbrev pub HasOneAnswer : Type 0
HasOneAnswer = (v : VaultState) (session : Session) (urids : List (List ℕ)) (a b : Answer) → IsTrue v.tells
    → IsAnswer v session urids a → IsAnswer v session urids b → a ≡ b

-- and at least one
abbrev pub HasSomeAnswer : Type 0
HasSomeAnswer = (v : VaultState) (session : Session) (urids : List (List ℕ)) → IsTrue v.tells → (a : Answer) × IsAnswer v session urids a
