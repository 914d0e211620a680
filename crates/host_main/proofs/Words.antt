-- Two words, and three, are the list of them.
use Rattle.std.proofs.Common.{◌≡◌, ◌<◌, ◌≤◌, List, [], ◌∷◌, length, get_or, arith}

pub two_words : {X : Type 0} (words : List X) (a b : X) → 2 ≤ length words → length words < 3
    → a ≡ get_or words 0 a → b ≡ get_or words 1 b → words ≡ a ∷ b ∷ []
two_words [] a b least below first second = absurd (omega arith)
two_words (x ∷ []) a b least below first second = absurd (omega arith)
two_words (x ∷ y ∷ []) a b least below first second = cc
two_words (x ∷ y ∷ z ∷ more) a b least below first second = absurd (omega arith)

pub three_words : {X : Type 0} (words : List X) (a b c : X) → 3 ≤ length words → length words < 4
    → a ≡ get_or words 0 a → b ≡ get_or words 1 b → c ≡ get_or words 2 c → words ≡ a ∷ b ∷ c ∷ []
three_words [] a b c least below first second third = absurd (omega arith)
three_words (x ∷ []) a b c least below first second third = absurd (omega arith)
three_words (x ∷ y ∷ []) a b c least below first second third = absurd (omega arith)
three_words (x ∷ y ∷ z ∷ []) a b c least below first second third = cc
three_words (x ∷ y ∷ z ∷ w ∷ more) a b c least below first second third = absurd (omega arith)
