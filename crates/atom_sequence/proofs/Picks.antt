-- The earliest event of those that are left, and the first of those at its time, is the first in the order of all.
use Rattle.std.proofs.Common.{◌≡◌, ℕ, zero, suc, ◌<◌, List, [], ◌∷◌, ◌++◌, length, get_or, set, Option, None, Some, IfSome, IsSome, option_map, ℤ, ◌≤ℤ◌, ◌<ℤ◌, refl, sym, subst, arith}
use Rattle.atom_core.specs.declared.view.AtomView.{AtomView}
use Rattle.atom_core.specs.Value.{timed, Parts, part, none}
use Rattle.atom_core.specs.Iterating.{TakesEvent}
use Rattle.atom_sequence.specs.declared.cursor.Cursor.{Cursor}
use Rattle.atom_sequence.specs.Event.{Event, as_parts, NeverFall}
use Rattle.atom_sequence.specs.Merge.{joined, in_order}
use Rattle.atom_sequence.specs.Cursors.{HasLeft, HaveLeft, EachNeverFalls, time_of, time_at}
use Rattle.atom_sequence.proofs.Times.{From, After, from_first, after_first}
use Rattle.atom_sequence.proofs.Orders.{BeginsFrom, put_first, begins_more, goes_first}

abbrev first_time : Option (ℤ × AtomView) → Option ℤ
first_time next = option_map (λ (e : ℤ × AtomView). e.0) next

takes_time : (e : Event) (parts : Parts) (next : Option (ℤ × AtomView)) (rest : List ℕ)
    → TakesEvent (part (timed e.time) e.value parts) next rest → first_time next ≡ Some e.time
takes_time e parts None rest h = absurd h
takes_time e parts (Some found) rest h = let same : timed e.time ≡ timed found.0 = h.0 in cc

takes_nothing : (next : Option (ℤ × AtomView)) (rest : List ℕ) → TakesEvent none next rest → first_time next ≡ None
takes_nothing None rest h = refl
takes_nothing (Some found) rest h = absurd h

pub time_first : (c : Cursor) (e : Event) (events : List Event) → HasLeft c (e ∷ events) → time_of c ≡ Some e.time
time_first c e events h = takes_time e (as_parts events) c.next c.rest.now (h.1)

pub time_none : (c : Cursor) → HasLeft c [] → time_of c ≡ None
time_none c h = takes_nothing c.next c.rest.now (h.1)

if_some : (P : ℤ → Type 0) (o : Option ℤ) (time : ℤ) → o ≡ Some time → IfSome o P → P time
if_some P o time e h = subst (λ (x : Option ℤ). IfSome x P) e h

left_from : (time : ℤ) (c : Cursor) (events : List Event) → HasLeft c events → NeverFall events → IfSome (time_of c) (λ t. time ≤ℤ t) → From time events
left_from time c [] h falls le = λ k d lt. absurd (omega (arith, lt))
left_from time c (e ∷ events) h falls le =
    from_first time e events falls (if_some (λ t. time ≤ℤ t) (time_of c) e.time (time_first c e events h) le)

left_after : (time : ℤ) (c : Cursor) (events : List Event) → HasLeft c events → NeverFall events → IfSome (time_of c) (λ t. time <ℤ t) → After time events
left_after time c [] h falls lt = λ k d less. absurd (omega (arith, less))
left_after time c (e ∷ events) h falls lt =
    after_first time e events falls (if_some (λ t. time <ℤ t) (time_of c) e.time (time_first c e events h) lt)

-- no event that is left is earlier
begins_joined : (time : ℤ) (cursors : List Cursor) (lists : List (List Event)) → HaveLeft cursors lists → EachNeverFalls lists
    → ((k : ℕ) → k < length cursors → IfSome (time_at cursors k) (λ t. time ≤ℤ t)) → BeginsFrom time (in_order (joined lists))
begins_joined time [] [] have falls all = tt
begins_joined time [] (events ∷ lists) have falls all = absurd have
begins_joined time (c ∷ cursors) [] have falls all = absurd have
begins_joined time (c ∷ cursors) (events ∷ lists) have falls all =
    begins_more time events (joined lists) (left_from time c events (have.0) (falls.0) (all 0 (omega arith)))
    (begins_joined time cursors lists (have.1) (falls.1) (λ k lt. all (suc k) (omega (arith, lt))))

-- the event of a place, and what is left when it is taken
pub record Picked (cursors : List Cursor) (lists : List (List Event)) (place : ℕ) (time : ℤ) : Type 0 where
  pub event : Event
  pub others : List Event
  pub after : List (List Event)
  pub at : event.time ≡ time
  pub left : (d : Cursor) → HasLeft (get_or cursors place d) (event ∷ others)
  pub goes : (c : Cursor) → HasLeft c others → HaveLeft (set cursors place c) after
  pub order : in_order (joined lists) ≡ event ∷ in_order (joined after)
  pub falls : EachNeverFalls after

pick_here : (c : Cursor) (cursors : List Cursor) (events : List Event) (lists : List (List Event)) (time : ℤ)
    → HasLeft c events → HaveLeft cursors lists → NeverFall events → EachNeverFalls lists → time_of c ≡ Some time
    → ((k : ℕ) → k < length cursors → IfSome (time_at cursors k) (λ t. time ≤ℤ t)) → Picked (c ∷ cursors) (events ∷ lists) zero time
pick_here c cursors [] lists time here have first falls is all = let none = time_none c here in absurd cc
pick_here c cursors (e ∷ events) lists time here have first falls is all =
    let some = time_first c e events here in
    let at : e.time ≡ time = cc in
    let begins : BeginsFrom e.time (in_order (joined lists)) =
    subst (λ t. BeginsFrom t (in_order (joined lists))) (sym at) (begins_joined time cursors lists have falls all) in
    record {
      event = e;
      others = events;
      after = events ∷ lists;
      at = at;
      left = λ d. here;
      goes = λ x left. (left, have);
      order = put_first e (in_order (events ++ joined lists)) (begins_more e.time events (joined lists) (first.0) begins);
      falls = (first.1, falls);
    }

pub pick : (cursors : List Cursor) (lists : List (List Event)) (place : ℕ) (time : ℤ) → HaveLeft cursors lists → EachNeverFalls lists
    → time_at cursors place ≡ Some time → ((k : ℕ) → k < place → IfSome (time_at cursors k) (λ t. time <ℤ t))
    → ((k : ℕ) → k < length cursors → IfSome (time_at cursors k) (λ t. time ≤ℤ t)) → Picked cursors lists place time
pick [] [] place time have falls is before all = absurd cc
pick [] (events ∷ lists) place time have falls is before all = absurd have
pick (c ∷ cursors) [] place time have falls is before all = absurd have
pick (c ∷ cursors) (events ∷ lists) zero time have falls is before all =
    pick_here c cursors events lists time (have.0) (have.1) (falls.0) (falls.1) is (λ k lt. all (suc k) (omega (arith, lt)))
pick (c ∷ cursors) (events ∷ lists) (suc place) time have falls is before all =
    let p = pick cursors lists place time (have.1) (falls.1) is (λ k lt. before (suc k) (omega (arith, lt))) (λ k lt. all (suc k) (omega (arith, lt))) in
    let later : After time events = left_after time c events (have.0) (falls.0) (before 0 (omega arith)) in
    record {
      event = p.event;
      others = p.others;
      after = events ∷ p.after;
      at = p.at;
      left = p.left;
      goes = λ x left. (have.0, p.goes x left);
      order = goes_first p.event events (joined lists) (joined p.after) (subst (λ t. After t events) (sym p.at) later) p.order;
      falls = (falls.0, p.falls);
    }

-- no event is left
pub nothing_left : (cursors : List Cursor) (lists : List (List Event)) → HaveLeft cursors lists
    → ((k : ℕ) → k < length cursors → time_at cursors k ≡ None) → joined lists ≡ []
nothing_left [] [] have empty = refl
nothing_left [] (events ∷ lists) have empty = absurd have
nothing_left (c ∷ cursors) [] have empty = absurd have
nothing_left (c ∷ cursors) ([] ∷ lists) have empty = nothing_left cursors lists (have.1) (λ k lt. empty (suc k) (omega (arith, lt)))
nothing_left (c ∷ cursors) ((e ∷ events) ∷ lists) have empty =
    let some = time_first c e events (have.0) in let no = empty 0 (omega arith) in absurd cc

-- the event of a place, whatever the times
pub record Taken (cursors : List Cursor) (place : ℕ) : Type 0 where
  pub event : Event
  pub others : List Event
  pub after : List (List Event)
  pub left : (d : Cursor) → HasLeft (get_or cursors place d) (event ∷ others)
  pub goes : (c : Cursor) → HasLeft c others → HaveLeft (set cursors place c) after

pub take_at : (cursors : List Cursor) (lists : List (List Event)) (place : ℕ) (time : ℤ) → HaveLeft cursors lists → time_at cursors place ≡ Some time
    → Taken cursors place
take_at [] lists place time have is = absurd cc
take_at (c ∷ cursors) [] place time have is = absurd have
take_at (c ∷ cursors) ([] ∷ lists) zero time have is = let no = time_none c (have.0) in absurd cc
take_at (c ∷ cursors) ((e ∷ events) ∷ lists) zero time have is =
    record { event = e; others = events; after = events ∷ lists; left = λ d. have.0; goes = λ x left. (left, have.1) }
take_at (c ∷ cursors) (events ∷ lists) (suc place) time have is =
    let t = take_at cursors lists place time (have.1) is in
    record { event = t.event; others = t.others; after = events ∷ t.after; left = t.left; goes = λ x left. (have.0, t.goes x left) }

some_of : (next : Option (ℤ × AtomView)) (time : ℤ) → first_time next ≡ Some time → IsSome next
some_of None time e = absurd cc
some_of (Some found) time e = refl

pub some_next : (c : Cursor) (time : ℤ) → time_of c ≡ Some time → IsSome c.next
some_next c time e = some_of c.next time e

-- the time at a place is that of the cursor there
pub time_at_is : (cursors : List Cursor) (k : ℕ) (d : Cursor) → k < length cursors → time_at cursors k ≡ time_of (get_or cursors k d)
time_at_is [] k d lt = absurd (omega (arith, lt))
time_at_is (c ∷ cursors) zero d lt = refl
time_at_is (c ∷ cursors) (suc k) d lt = time_at_is cursors k d (omega (arith, lt))
