-- The rules of a state file in their order, and the first that is broken: by its states, for want of numbers, or by what restores them.
use Rattle.std.specs.Prelude.{◌≡◌, ℕ, ◌^◌, nat_lt, Bool, false, not, if◌then◌else◌, List, [], length, filter, Option, None, Some, is_some, option_map, slice_get}
use Rattle.std.specs.List.{list_all}
use Rattle.std.specs.Str.{bytes_eq}
use Rattle.session_load.specs.declared.fault.LoadFault.TheVariants as load
use Rattle.state_file.specs.Reading.{saves_of}
use Rattle.state_file.specs.Rules.{first_broken, uris_in}
use Rattle.state_file.specs.declared.fault.StateFault.{StateFault}
use Rattle.state_file.specs.declared.fault.StateFault.TheVariants as state
use Rattle.state_file.specs.declared.saved.Saved.{Saved}
use Rattle.triple_store.specs.declared.term.Triple.{Triple}
use Rattle.urid_map.specs.Numbers.{with_uris}
use Rattle.session_states.specs.declared.fault.Rule.{Rule}
use Rattle.session_states.specs.declared.fault.Rule.TheVariants.{Shape, Flags, Bytes, Size, Count, Plugin}
use Rattle.session_states.specs.declared.fault.StatesFault.{StatesFault}
use Rattle.session_states.specs.declared.fault.StatesFault.TheVariants.{Load, Broken, UridFull}
use Rattle.session_states.specs.declared.restore.Restore.{Restore}

-- the restores from a file
abbrev pub is_from : List ℕ → Restore → Bool
is_from path restore = bytes_eq path restore.path

abbrev pub restores_from : List ℕ → List Restore → List Restore
restores_from path restores = filter (is_from path) restores

-- there is a state at the place that is restored
abbrev pub is_there : List Saved → Restore → Bool
is_there saves restore = is_some (slice_get saves restore.place)

-- a state is one of this plug-in
abbrev pub is_state_of : List ℕ → Option Saved → Bool
is_state_of uri None = false
is_state_of uri (Some saved) = bytes_eq uri saved.uri

-- the state that is restored is one of the instance's plug-in
abbrev pub is_fit : List Saved → Restore → Bool
is_fit saves restore = is_state_of restore.uri (slice_get saves restore.place)

-- the first rule that these restores from a file with these states break: each goes through all restores before the next
unfoldable pub broken_by : List Saved → List Restore → Option Rule
broken_by saves restores =
    if not (list_all (is_there saves) restores) then Some Count
    else if not (list_all (is_fit saves) restores) then Some Plugin else None

-- why what is restored is refused: the first broken rule; or memory was wanted to tell it
abbrev pub IsBroken : List ℕ → Option Rule → StatesFault → Type 0
IsBroken path broken (Broken at rule) = (at ≡ path) × (broken ≡ Some rule)
IsBroken path broken (Load fault) = fault ≡ load.NoMemory
IsBroken path broken UridFull = ⊥

-- how a fault of states is told of the file at a path
abbrev pub fault_of : List ℕ → StateFault → StatesFault
fault_of path state.Shape = Broken path Shape
fault_of path state.Flags = Broken path Flags
fault_of path state.Bytes = Broken path Bytes
fault_of path state.Size = Broken path Size
fault_of path state.UridFull = UridFull
fault_of path state.NoMemory = Load load.NoMemory

-- the URIs that have numbers once those of a file have theirs
abbrev pub with_states : List (List ℕ) → List Triple → List (List ℕ)
with_states urids rows = with_uris urids (uris_in rows)

-- what comes after `size`: first the numbers, of which there are at most 2^20, then the rules for what is restored from the file
abbrev pub verdict_after : List ℕ → List Restore → List Triple → List (List ℕ) → Option StatesFault
verdict_after path restores rows urids =
    if nat_lt (2 ^ 20) (length (with_states urids rows)) then Some UridFull
    else option_map (λ rule. Broken path rule) (broken_by (saves_of rows (with_states urids rows)) (restores_from path restores))

-- by the first rule of states that is broken, if there is one
abbrev pub verdict_by : Option StateFault → List ℕ → List Restore → List Triple → List (List ℕ) → Option StatesFault
verdict_by (Some fault) path restores rows urids = Some (fault_of path fault)
verdict_by None path restores rows urids = verdict_after path restores rows urids

-- what stands against the file at a path with these rows, where these URIs have numbers: nothing, or the first cause
abbrev pub verdict : List ℕ → List Restore → List Triple → List (List ℕ) → Option StatesFault
verdict path restores rows urids = verdict_by (first_broken rows) path restores rows urids

-- nothing stands against rows: they give these states, and these URIs then have numbers
pub record ArePassed (path : List ℕ) (restores : List Restore) (rows : List Triple) (urids : List (List ℕ)) (saves : List Saved) (after : List (List ℕ)) : Type 0 where
  pub passed : verdict path restores rows urids ≡ None
  pub mapped : after ≡ with_states urids rows
  pub states : saves ≡ saves_of rows after

-- why rows give no states: their first cause; or memory was wanted
abbrev pub IsCause : List ℕ → List Restore → List Triple → List (List ℕ) → StatesFault → Type 0
IsCause path restores rows urids (Load fault) = fault ≡ load.NoMemory
IsCause path restores rows urids (Broken at rule) = verdict path restores rows urids ≡ Some (Broken at rule)
IsCause path restores rows urids UridFull = verdict path restores rows urids ≡ Some UridFull
