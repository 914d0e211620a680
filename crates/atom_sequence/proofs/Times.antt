-- Times, and lists all of whose events have a property.
use Rattle.std.proofs.Common.{◌≡◌, zero, suc, true, false, List, ◌∷◌, ℤ, ◌≤ℤ◌, ◌<ℤ◌, int_le, All, arith}
use Rattle.std.proofs.lemmas.Int.{ints}
use Rattle.atom_sequence.specs.Event.{Event, NeverFall}

pub le_true : (a b : ℤ) → a ≤ℤ b → int_le a b ≡ true
le_true a b h = grind (arith, ints)

pub le_false : (a b : ℤ) → b <ℤ a → int_le a b ≡ false
le_false a b h = grind (arith, ints)

pub true_le : (a b : ℤ) → int_le a b ≡ true → a ≤ℤ b
true_le a b h = grind (arith, ints)

pub false_lt : (a b : ℤ) → int_le a b ≡ false → b <ℤ a
false_lt a b h = grind (arith, ints)

pub all_head : {A : Type 0} (P : A → Type 0) (x : A) (xs : List A) → All P (x ∷ xs) → P x
all_head P x xs h = h 0 x (omega arith)

pub all_tail : {A : Type 0} (P : A → Type 0) (x : A) (xs : List A) → All P (x ∷ xs) → All P xs
all_tail P x xs h = λ k d lt. h (suc k) d (omega (arith, lt))

pub all_cons : {A : Type 0} (P : A → Type 0) (x : A) (xs : List A) → P x → All P xs → All P (x ∷ xs)
all_cons P x xs p h zero d lt = p
all_cons P x xs p h (suc k) d lt = h k d (omega (arith, lt))

-- from a time on
abbrev pub From : ℤ → List Event → Type 0
From time events = All (λ (f : Event). time ≤ℤ f.time) events

-- after a time
abbrev pub After : ℤ → List Event → Type 0
After time events = All (λ (f : Event). time <ℤ f.time) events

pub from_first : (time : ℤ) (e : Event) (events : List Event) → NeverFall (e ∷ events) → time ≤ℤ e.time → From time (e ∷ events)
from_first time e events h le =
    all_cons (λ (f : Event). time ≤ℤ f.time) e events le (λ k d lt. let more = h.0 k d lt in omega (arith, ints, more, le))

pub after_first : (time : ℤ) (e : Event) (events : List Event) → NeverFall (e ∷ events) → time <ℤ e.time → After time (e ∷ events)
after_first time e events h le =
    all_cons (λ (f : Event). time <ℤ f.time) e events le (λ k d lt. let more = h.0 k d lt in omega (arith, ints, more, le))
