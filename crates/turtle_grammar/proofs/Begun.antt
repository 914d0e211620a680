-- Whether a text begins a pattern is known, where each class of the pattern has a character.
use Rattle.std.proofs.Common.{◌≡◌, ◌⊎◌, inl, inr, ℕ, Bool, true, false, cond, List, [], ◌∷◌, ◌++◌, refl}
use Rattle.turtle_grammar.specs.Pattern.{Pattern, fails, nothing, one, ◌then◌, ◌or◌, many, Matches, is_empty, in_row, either, after}
use Rattle.turtle_grammar.specs.Tokens.{Begins}
use Rattle.turtle_grammar.proofs.Derivatives.{from_after, to_after}
use Rattle.turtle_grammar.proofs.Longest.{Decided}

-- each class has a character
abbrev pub Live : Pattern → Type 0
Live fails = Unit {0}
Live nothing = Unit {0}
Live (one class) = (c : ℕ) × (class c ≡ true)
Live (p then q) = Live p × Live q
Live (p or q) = Live p × Live q
Live (many p) = Live p

live_in_row : (p q : Pattern) → Live p → Live q → Live (in_row p q)
live_in_row fails q h k = tt
live_in_row nothing q h k = k
live_in_row (one f) q h k = (h, k)
live_in_row (a then b) q h k = (h, k)
live_in_row (a or b) q h k = (h, k)
live_in_row (many a) q h k = (h, k)

live_either : (p q : Pattern) → Live p → Live q → Live (either p q)
live_either fails q h k = k
live_either nothing fails h k = h
live_either nothing nothing h k = (h, k)
live_either nothing (one f) h k = (h, k)
live_either nothing (a then b) h k = (h, k)
live_either nothing (a or b) h k = (h, k)
live_either nothing (many a) h k = (h, k)
live_either (one g) fails h k = h
live_either (one g) nothing h k = (h, k)
live_either (one g) (one f) h k = (h, k)
live_either (one g) (a then b) h k = (h, k)
live_either (one g) (a or b) h k = (h, k)
live_either (one g) (many a) h k = (h, k)
live_either (u then v) fails h k = h
live_either (u then v) nothing h k = (h, k)
live_either (u then v) (one f) h k = (h, k)
live_either (u then v) (a then b) h k = (h, k)
live_either (u then v) (a or b) h k = (h, k)
live_either (u then v) (many a) h k = (h, k)
live_either (u or v) fails h k = h
live_either (u or v) nothing h k = (h, k)
live_either (u or v) (one f) h k = (h, k)
live_either (u or v) (a then b) h k = (h, k)
live_either (u or v) (a or b) h k = (h, k)
live_either (u or v) (many a) h k = (h, k)
live_either (many u) fails h k = h
live_either (many u) nothing h k = (h, k)
live_either (many u) (one f) h k = (h, k)
live_either (many u) (a then b) h k = (h, k)
live_either (many u) (a or b) h k = (h, k)
live_either (many u) (many a) h k = (h, k)

live_if : (b : Bool) (p : Pattern) → Live p → Live (cond b p fails)
live_if true p h = h
live_if false p h = tt

live_after : (c : ℕ) (p : Pattern) → Live p → Live (after c p)
live_after c fails h = tt
live_after c nothing h = tt
live_after c (one f) h = live_if (f c) nothing tt
live_after c (p then q) h =
    live_either (in_row (after c p) q) (cond (is_empty p) (after c q) fails) (live_in_row (after c p) q (live_after c p h.0) h.1) (live_if (is_empty p) (after c q) (live_after c q h.1))
live_after c (p or q) h = live_either (after c p) (after c q) (live_after c p h.0) (live_after c q h.1)
live_after c (many p) h = live_in_row (after c p) (many p) (live_after c p h) h

-- a text of the pattern, or why there is none
abbrev HasText : Pattern → Type 0
HasText p = ((t : List ℕ) × Matches p t) ⊎ ((t : List ℕ) → Matches p t → ⊥)

in_row_text : (p q : Pattern) → HasText p → HasText q → HasText (p then q)
in_row_text p q (inl (a, h)) (inl (b, k)) = inl (a ++ b, (a, b, h, k, refl))
in_row_text p q (inl x) (inr never) = inr (λ t h. never h.1 h.3)
in_row_text p q (inr never) y = inr (λ t h. never h.0 h.2)

either_text : (p q : Pattern) → HasText p → HasText q → HasText (p or q)
either_text p q (inl (a, h)) y = inl (a, inl h)
either_text p q (inr never) (inl (b, k)) = inl (b, inr k)
either_text p q (inr never) (inr none) = inr (λ t h. neither t h)
  where
    neither : (t : List ℕ) → Matches p t ⊎ Matches q t → ⊥
    neither t (inl h) = never t h
    neither t (inr h) = none t h

some_text : (p : Pattern) → Live p → HasText p
some_text fails h = inr (λ t m. m)
some_text nothing h = inl ([], refl)
some_text (one f) h = inl (h.0 ∷ [], (h.0, h.1, refl))
some_text (p then q) h = in_row_text p q (some_text p h.0) (some_text q h.1)
some_text (p or q) h = either_text p q (some_text p h.0) (some_text q h.1)
some_text (many p) h = inl ([], ([], tt, refl))

-- what may follow a text
abbrev after_all : List ℕ → Pattern → Pattern
after_all [] p = p
after_all (c ∷ text) p = after_all text (after c p)

live_after_all : (text : List ℕ) (p : Pattern) → Live p → Live (after_all text p)
live_after_all [] p h = h
live_after_all (c ∷ text) p h = live_after_all text (after c p) (live_after c p h)

to_after_all : (text more : List ℕ) (p : Pattern) → Matches p (text ++ more) → Matches (after_all text p) more
to_after_all [] more p h = h
to_after_all (c ∷ text) more p h = to_after_all text more (after c p) (to_after c p (text ++ more) h)

from_after_all : (text more : List ℕ) (p : Pattern) → Matches (after_all text p) more → Matches p (text ++ more)
from_after_all [] more p h = h
from_after_all (c ∷ text) more p h = from_after c p (text ++ more) (from_after_all text more (after c p) h)

pub begins_told : (p : Pattern) (text : List ℕ) → Live p → Decided (Begins p text)
begins_told p text live = by (some_text (after_all text p) (live_after_all text p live))
  where
    by : HasText (after_all text p) → Decided (Begins p text)
    by (inl (more, h)) = inl (more, from_after_all text more p h)
    by (inr none) = inr (λ h. none h.0 (to_after_all text h.0 p h.1))
