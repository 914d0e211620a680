-- Which event stands first in the order of time.
use Rattle.std.proofs.Common.{◌≡◌, Bool, true, false, if◌then◌else◌, List, [], ◌∷◌, ◌++◌, ℤ, ◌≤ℤ◌, ◌<ℤ◌, int_le, refl, ap, ◌∙◌}
use Rattle.atom_sequence.specs.Event.{Event}
use Rattle.atom_sequence.specs.Merge.{put_in, in_order}
use Rattle.atom_sequence.proofs.Times.{le_true, le_false, all_head, all_tail, From, After}

pub put_before : (e f : Event) (events : List Event) → e.time ≤ℤ f.time → put_in e (f ∷ events) ≡ e ∷ (f ∷ events)
put_before e f events h = ap (λ (b : Bool). if b then e ∷ (f ∷ events) else f ∷ put_in e events) (le_true e.time f.time h)

pub put_behind : (e f : Event) (events : List Event) → f.time <ℤ e.time → put_in e (f ∷ events) ≡ f ∷ put_in e events
put_behind e f events h = ap (λ (b : Bool). if b then e ∷ (f ∷ events) else f ∷ put_in e events) (le_false e.time f.time h)

-- the first event isn't earlier
abbrev pub BeginsFrom : ℤ → List Event → Type 0
BeginsFrom time [] = Unit {0}
BeginsFrom time (e ∷ events) = time ≤ℤ e.time

pub put_first : (e : Event) (events : List Event) → BeginsFrom e.time events → put_in e events ≡ e ∷ events
put_first e [] h = refl
put_first e (f ∷ events) h = put_before e f events h

begins_either : (b : Bool) (time : ℤ) (e f : Event) (events more : List Event) → time ≤ℤ e.time → time ≤ℤ f.time
    → BeginsFrom time (if b then e ∷ events else f ∷ more)
begins_either true time e f events more h g = h
begins_either false time e f events more h g = g

begins_put : (time : ℤ) (e : Event) (events : List Event) → time ≤ℤ e.time → BeginsFrom time events → BeginsFrom time (put_in e events)
begins_put time e [] h b = h
begins_put time e (f ∷ events) h b = begins_either (int_le e.time f.time) time e f (f ∷ events) (put_in e events) h b

pub begins_more : (time : ℤ) (xs ys : List Event) → From time xs → BeginsFrom time (in_order ys) → BeginsFrom time (in_order (xs ++ ys))
begins_more time [] ys h b = b
begins_more time (x ∷ xs) ys h b = begins_put time x (in_order (xs ++ ys)) (all_head (λ (f : Event). time ≤ℤ f.time) x xs h)
    (begins_more time xs ys (all_tail (λ (f : Event). time ≤ℤ f.time) x xs h) b)

-- an event goes before later ones
pub goes_first : (e : Event) (xs ys zs : List Event) → After e.time xs → in_order ys ≡ e ∷ in_order zs → in_order (xs ++ ys) ≡ e ∷ in_order (xs ++ zs)
goes_first e [] ys zs h first = first
goes_first e (x ∷ xs) ys zs h first =
    let P = λ (f : Event). e.time <ℤ f.time in
    ap (put_in x) (goes_first e xs ys zs (all_tail P x xs h) first) ∙ put_behind x e (in_order (xs ++ zs)) (all_head P x xs h)
