-- What is left of the events of each view. No public clause rests on it.
use Rattle.std.specs.Prelude.{◌≡◌, ℕ, zero, suc, pred, ◌<◌, ◌≤◌, false, List, [], ◌∷◌, ◌++◌, length, Option, Some, None, IfSome, option_map, Result, MatchResult, ℤ, ◌≤ℤ◌, ◌<ℤ◌}
use Rattle.atom_core.specs.declared.view.AtomView.{AtomView}
use Rattle.atom_core.specs.declared.form.Form.TheVariants.{Sequence}
use Rattle.atom_core.specs.Value.{timed, Value}
use Rattle.atom_core.specs.Spelling.{atom_of, part_of}
use Rattle.atom_core.specs.Fits.{Fits, PartsFit}
use Rattle.atom_core.specs.Answer.{most_containers}
use Rattle.atom_core.specs.Iterating.{TakesEvent}
use Rattle.atom_forge.specs.declared.room.NoRoom.{NoRoom}
use Rattle.atom_forge.specs.Forged.{Forged, left, with_piece}
use Rattle.atom_sequence.specs.declared.cursor.Cursor.{Cursor}
use Rattle.atom_sequence.specs.Event.{Event, as_parts, size_of, NeverFall}
use Rattle.atom_sequence.specs.Merge.{joined, in_order, cut}
use Rattle.atom_sequence.specs.Views.{with_events}

-- the bytes of a view
abbrev pub bytes_of : AtomView → List ℕ
bytes_of view = view.bytes.now

-- these events are left
abbrev pub HasLeft : Cursor → List Event → Type 0
HasLeft cursor events = PartsFit most_containers Sequence (as_parts events) × TakesEvent (as_parts events) cursor.next cursor.rest.now

-- each cursor has the events of its list left
abbrev pub HaveLeft : List Cursor → List (List Event) → Type 0
HaveLeft [] [] = Unit {0}
HaveLeft (c ∷ cursors) (events ∷ lists) = HasLeft c events × HaveLeft cursors lists
HaveLeft [] (events ∷ lists) = ⊥
HaveLeft (c ∷ cursors) [] = ⊥

abbrev pub EachNeverFalls : List (List Event) → Type 0
EachNeverFalls [] = Unit {0}
EachNeverFalls (events ∷ lists) = NeverFall events × EachNeverFalls lists

-- the time of the first event that a cursor has left
abbrev pub time_of : Cursor → Option ℤ
time_of cursor = option_map (λ (e : ℤ × AtomView). e.0) cursor.next

abbrev pub time_at : List Cursor → ℕ → Option ℤ
time_at [] place = None
time_at (c ∷ cursors) zero = time_of c
time_at (c ∷ cursors) (suc place) = time_at cursors place

-- the first of the earliest of so many events stands here, at this time
pub record IsEarliest (cursors : List Cursor) (count place : ℕ) (time : ℤ) : Type 0 where
  pub within : place < count
  pub here : time_at cursors place ≡ Some time
  pub before : (k : ℕ) → k < place → IfSome (time_at cursors k) (λ t. time <ℤ t)
  pub all : (k : ℕ) → k < count → IfSome (time_at cursors k) (λ t. time ≤ℤ t)

-- none of so many cursors has an event left
abbrev pub AreDone : List Cursor → ℕ → Type 0
AreDone cursors count = (k : ℕ) → k < count → time_at cursors k ≡ None

-- the best of so many places, if one of them has an event left
abbrev pub IsBest : List Cursor → ℕ → Option (ℕ × ℤ) → Type 0
IsBest cursors count None = AreDone cursors count
IsBest cursors count (Some best) = IsEarliest cursors count best.0 best.1

-- a view is of a value that may be the atom of an event
abbrev pub IsAtomOf : AtomView → Value → Type 0
IsAtomOf view value = Fits (pred most_containers) value × (view.bytes.now ≡ atom_of value)

-- an event is put, if there is room for it, and else nothing changes
abbrev pub PutsEvent : Forged → Event → Result (Unit {0}) NoRoom → Forged → Type 0
PutsEvent old e result new =
    MatchResult result
    (λ _. (size_of e ≤ left old) × (new ≡ with_piece old (part_of (timed e.time) e.value) false))
    (λ _. (left old < size_of e) × (new ≡ old))

-- the same of a cursor's first event, after which the others are left
abbrev pub PutsFirst : Forged → Event → List Event → Result Cursor NoRoom → Forged → Type 0
PutsFirst old e events result new =
    MatchResult result
    (λ next. HasLeft next events × (size_of e ≤ left old) × (new ≡ with_piece old (part_of (timed e.time) e.value) false))
    (λ _. (left old < size_of e) × (new ≡ old))

-- so many events are written; what may still be written of those that are left follows them in the merge
pub record IsMerging (all : List (List Event)) (start forge : Forged) (cursors : List Cursor) (written : ℕ) : Type 0 where
  pub lists : List (List Event)
  pub done : List Event
  pub have : HaveLeft cursors lists
  pub fall : EachNeverFalls lists
  pub merge : cut (left start) (in_order (joined all)) ≡ done ++ cut (left forge) (in_order (joined lists))
  pub forge_is : forge ≡ with_events start done
  pub count : written ≡ length done
