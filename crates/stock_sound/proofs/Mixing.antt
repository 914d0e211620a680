-- Two signals mixed, frame by frame.
use Rattle.std.proofs.Common.{◌≡◌, ℕ, zero, suc, pos, ◌+◌, ◌<◌, ◌+ℤ◌, ℤ, List, [], ◌∷◌, ◌++◌, length, get_or, set, take, refl, ap, ◌∙◌, arith, add-one}
use Rattle.std.proofs.lemmas.Int.{ints}
use Rattle.std.proofs.lemmas.List.{take_more_set}
use Rattle.std.proofs.lemmas.List.Sums.{fold_push}
use Rattle.lv_base.specs.declared.number.Sample.{Sample}
use Rattle.lv_base.specs.Number.{clamped, mix_of, sum_of}
use Rattle.stock_sound.specs.Mixer.{mixed}

sum_of_one : (a : Sample) → sum_of (a ∷ []) ≡ pos 0 +ℤ a.0
sum_of_one a = fold_push (λ (sum : ℤ) (part : Sample). sum +ℤ part.0) (pos 0) [] a

sum_of_two : (a b : Sample) → sum_of (a ∷ b ∷ []) ≡ (pos 0 +ℤ a.0) +ℤ b.0
sum_of_two a b = fold_push (λ (sum : ℤ) (part : Sample). sum +ℤ part.0) (pos 0) (a ∷ []) b ∙ ap (λ (sum : ℤ). sum +ℤ b.0) (sum_of_one a)

-- of two samples the mix is their sum, clamped
pub mix_of_two : (a b : Sample) → mix_of (a ∷ b ∷ []) ≡ clamped (a.0 +ℤ b.0)
mix_of_two a b = ap clamped (sum_of_two a b ∙ omega (arith, ints))

pub mixed_length : (a b : List Sample) → length a ≡ length b → length (mixed a b) ≡ length a
mixed_length [] b e = refl
mixed_length (x ∷ a) [] e = absurd (omega (arith, e))
mixed_length (x ∷ a) (y ∷ b) e = ap suc (mixed_length a b (omega (arith, e)))

mixed_step : (a b : List Sample) (i : ℕ) (d e : Sample) → i < length a → i < length b
    → mixed (take (suc i) a) (take (suc i) b) ≡ mixed (take i a) (take i b) ++ mix_of (get_or a i d ∷ get_or b i e ∷ []) ∷ []
mixed_step [] b i d e h k = absurd (omega (arith, h))
mixed_step (x ∷ a) [] i d e h k = absurd (omega (arith, k))
mixed_step (x ∷ a) (y ∷ b) zero d e h k = refl
mixed_step (x ∷ a) (y ∷ b) (suc i) d e h k =
    ap (λ (rest : List Sample). mix_of (x ∷ y ∷ []) ∷ rest) (mixed_step a b i d e (omega (arith, h)) (omega (arith, k)))

-- one frame more is mixed
pub mixed_more : (a b out : List Sample) (i : ℕ) (d e y : Sample) → i < length a → i < length b → i < length out
    → y ≡ mix_of (get_or a i d ∷ get_or b i e ∷ []) → take i out ≡ mixed (take i a) (take i b)
    → take (i + 1) (set out i y) ≡ mixed (take (i + 1) a) (take (i + 1) b)
mixed_more a b out i d e y h k l is so =
    rw (take_more_set out i y l, add-one, mixed_step a b i d e h k, so)
    (ap (λ (z : Sample). mixed (take i a) (take i b) ++ z ∷ []) is)
