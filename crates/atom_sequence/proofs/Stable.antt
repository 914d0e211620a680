-- Each list of events has a stable order, and no two.
use Rattle.std.proofs.Common.{◌≡◌, Bool, true, false, cond, ◌&&◌, if◌then◌else◌, List, [], ◌∷◌, ℤ, ◌≤ℤ◌, ◌<ℤ◌, int_le, refl, sym, ap, ◌∙◌, arith}
use Rattle.std.proofs.lemmas.Int.{ints, by_lt_z}
use Rattle.atom_sequence.specs.Event.{Event, NeverFall}
use Rattle.atom_sequence.specs.Merge.{put_in, in_order}
use Rattle.atom_sequence.specs.Laws.{at_time, StableOrder}
use Rattle.atom_sequence.proofs.Times.{le_false, true_le, false_lt, all_head, all_tail, all_cons, From, After, from_first, after_first}

-- the order never falls

from_either : (b : Bool) (time : ℤ) (e f : Event) (events more : List Event) → From time (e ∷ (f ∷ events)) → From time (f ∷ more)
    → From time (if b then e ∷ (f ∷ events) else f ∷ more)
from_either true time e f events more h g = h
from_either false time e f events more h g = g

from_put : (time : ℤ) (e : Event) (events : List Event) → time ≤ℤ e.time → From time events → From time (put_in e events)
from_put time e [] le h = all_cons (λ (f : Event). time ≤ℤ f.time) e [] le h
from_put time e (f ∷ events) le h =
    from_either (int_le e.time f.time) time e f events (put_in e events)
    (all_cons (λ (f : Event). time ≤ℤ f.time) e (f ∷ events) le h)
    (all_cons (λ (f : Event). time ≤ℤ f.time) f (put_in e events) (all_head (λ (g : Event). time ≤ℤ g.time) f events h)
    (from_put time e events le (all_tail (λ (g : Event). time ≤ℤ g.time) f events h)))

falls_either : (b : Bool) (e f : Event) (events : List Event) → int_le e.time f.time ≡ b → NeverFall (f ∷ events) → NeverFall (put_in e events)
    → NeverFall (if b then e ∷ (f ∷ events) else f ∷ put_in e events)
falls_either true e f events is h g = (from_first e.time f events h (true_le e.time f.time is), h)
falls_either false e f events is h g =
    let lt : f.time <ℤ e.time = false_lt e.time f.time is in
    let le : f.time ≤ℤ e.time = omega (arith, ints, lt) in
    (from_put f.time e events le (h.0), g)

put_falls : (e : Event) (events : List Event) → NeverFall events → NeverFall (put_in e events)
put_falls e [] h = (λ k d lt. absurd (omega (arith, lt)), tt)
put_falls e (f ∷ events) h = falls_either (int_le e.time f.time) e f events refl h (put_falls e events (h.1))

order_falls : (given : List Event) → NeverFall (in_order given)
order_falls [] = tt
order_falls (e ∷ given) = put_falls e (in_order given) (order_falls given)

-- the order keeps the events at each time

abbrev is_at : ℤ → Event → Bool
is_at time e = int_le time e.time && int_le e.time time

turned : (be bf : Bool) (e f : Event) (events : List Event) → (be ≡ true → bf ≡ true → ⊥)
    → cond bf (f ∷ cond be (e ∷ events) events) (cond be (e ∷ events) events) ≡ cond be (e ∷ cond bf (f ∷ events) events) (cond bf (f ∷ events) events)
turned true true e f events one = absurd (one refl refl)
turned true false e f events one = refl
turned false true e f events one = refl
turned false false e f events one = refl

both_true : (a b : Bool) → (a && b) ≡ true → (a ≡ true) × (b ≡ true)
both_true true true h = (refl, refl)
both_true true false h = absurd cc
both_true false true h = absurd cc
both_true false false h = absurd cc

not_both : (time : ℤ) (e f : Event) → f.time <ℤ e.time → is_at time e ≡ true → is_at time f ≡ true → ⊥
not_both time e f lt at_e at_f =
    let ee = both_true (int_le time e.time) (int_le e.time time) at_e in
    let ff = both_true (int_le time f.time) (int_le f.time time) at_f in
    let a : e.time ≤ℤ time = true_le e.time time (ee.1) in
    let b : time ≤ℤ f.time = true_le time f.time (ff.0) in
    omega (arith, ints, a, b, lt)

put_at_either : (time : ℤ) (b : Bool) (e f : Event) (events : List Event) → int_le e.time f.time ≡ b
    → at_time time (put_in e events) ≡ at_time time (e ∷ events)
    → at_time time (if b then e ∷ (f ∷ events) else f ∷ put_in e events) ≡ at_time time (e ∷ (f ∷ events))
put_at_either time true e f events is more = refl
put_at_either time false e f events is more =
    ap (λ (l : List Event). cond (is_at time f) (f ∷ l) l) more
    ∙ turned (is_at time e) (is_at time f) e f (at_time time events) (not_both time e f (false_lt e.time f.time is))

put_at : (time : ℤ) (e : Event) (events : List Event) → at_time time (put_in e events) ≡ at_time time (e ∷ events)
put_at time e [] = refl
put_at time e (f ∷ events) = put_at_either time (int_le e.time f.time) e f events refl (put_at time e events)

order_at : (given : List Event) (time : ℤ) → at_time time (in_order given) ≡ at_time time given
order_at [] time = refl
order_at (e ∷ given) time =
    put_at time e (in_order given) ∙ ap (λ (l : List Event). cond (is_at time e) (e ∷ l) l) (order_at given time)

-- no other list does both

and_false : (a b : Bool) → b ≡ false → (a && b) ≡ false
and_false true b h = h
and_false false b h = refl

later_not : (time : ℤ) (e : Event) → time <ℤ e.time → is_at time e ≡ false
later_not time e h = and_false (int_le time e.time) (int_le e.time time) (le_false e.time time h)

none_at : (time : ℤ) (events : List Event) → After time events → at_time time events ≡ []
none_at time [] h = refl
none_at time (e ∷ events) h =
    let P = λ (f : Event). time <ℤ f.time in
    let first : is_at time e ≡ false = later_not time e (all_head P e events h) in
    ap (λ (b : Bool). cond b (e ∷ at_time time events) (at_time time events)) first ∙ none_at time events (all_tail P e events h)

own_time : (e : Event) → is_at e.time e ≡ true
own_time e = grind (arith, ints)

first_at : (e : Event) (events : List Event) → at_time e.time (e ∷ events) ≡ e ∷ at_time e.time events
first_at e events = ap (λ (b : Bool). cond b (e ∷ at_time e.time events) (at_time e.time events)) (own_time e)

not_later : (e f : Event) (xs ys : List Event) → NeverFall (f ∷ ys) → at_time e.time (e ∷ xs) ≡ at_time e.time (f ∷ ys) → f.time ≤ℤ e.time
not_later e f xs ys falls same =
    by_lt_z e.time f.time
    (λ lt. let none = none_at e.time (f ∷ ys) (after_first e.time f ys falls lt) in let some = first_at e xs in absurd cc)
    (λ le. le)

rest_at : (b : Bool) (e : Event) (xs ys : List Event) → cond b (e ∷ xs) xs ≡ cond b (e ∷ ys) ys → xs ≡ ys
rest_at true e xs ys h = cc
rest_at false e xs ys h = h

one_order : (xs ys : List Event) → NeverFall xs → NeverFall ys → ((time : ℤ) → at_time time xs ≡ at_time time ys) → xs ≡ ys
one_order [] [] falls gently same = refl
one_order [] (f ∷ ys) falls gently same = let e = same f.time in let some = first_at f ys in absurd cc
one_order (e ∷ xs) [] falls gently same = let f = same e.time in let some = first_at e xs in absurd cc
one_order (e ∷ xs) (f ∷ ys) falls gently same =
    let a : f.time ≤ℤ e.time = not_later e f xs ys gently (same e.time) in
    let b : e.time ≤ℤ f.time = not_later f e ys xs falls (sym (same f.time)) in
    let at : e.time ≡ f.time = omega (arith, ints, a, b) in
    let here : e ∷ at_time e.time xs ≡ f ∷ at_time f.time ys =
    sym (first_at e xs) ∙ same e.time ∙ ap (λ t. at_time t (f ∷ ys)) at ∙ first_at f ys in
    let first : e ≡ f = cc in
    let rest : xs ≡ ys = one_order xs ys (falls.1) (gently.1) (λ time.
    rest_at (is_at time e) e (at_time time xs) (at_time time ys)
    (same time ∙ ap (λ (g : Event). cond (is_at time g) (g ∷ at_time time ys) (at_time time ys)) (sym first))) in
    ap (λ (g : Event). g ∷ xs) first ∙ ap (λ (l : List Event). f ∷ l) rest

pub stable_order : StableOrder
stable_order = record {
  some = λ given. record { rises = order_falls given; same = order_at given };
  only = λ given ordered h. one_order ordered (in_order given) h.rises (order_falls given) (λ time. h.same time ∙ sym (order_at given time));
}
