-- One character off a text, at either end.
use Rattle.std.proofs.Common.{◌≡◌, ℕ, ◌-◌, Option, None, Some, MatchOption, List, [], ◌∷◌, ◌++◌, length, take, drop, refl, sym, ap, ◌∙◌, subst, arith}
use Rattle.std.proofs.lemmas.List.{take_at, nil_from_length, length-append, append-nil}
use Rattle.std.proofs.lemmas.Str.{IsUtf8-nil, IsUtf8-past_char, IsUtf8-encode, IsUtf8-take, IsCharBoundary-at_seam, chars_past_char, chars-append, chars-nil}
use Rattle.std.specs.Char.{IsScalar}
use Rattle.std.specs.Str.{chars, IsUtf8, IsCharBoundary}
use Rattle.std.specs.Str.Iter.{chars_rest}
use Rattle.std.specs.declared.str.Chars.{Chars}
use lib.Utf8.{encode}

-- a text and the same with a character less, at its beginning
pub front_step : (s t : Chars) (r : Option ℕ) → IsUtf8 (chars_rest s)
    → MatchOption r ((length (chars_rest s) ≡ 0) × (t ≡ s)) (λ c. chars_rest s ≡ encode c ++ chars_rest t)
    → IsUtf8 (chars_rest t) × (chars (chars_rest t) ≡ drop 1 (chars (chars_rest s)))
front_step s t None u h =
    let none = nil_from_length (chars_rest s) h.0 in
    let after = ap chars_rest h.1 ∙ none in
    (subst IsUtf8 (sym after) IsUtf8-nil, ap chars after ∙ (chars-nil ∙ sym (ap (λ x. drop 1 x) (ap chars none ∙ chars-nil))))
front_step s t (Some c) u h =
    (IsUtf8-past_char (chars_rest s) (chars_rest t) c u h, sym (ap (λ x. drop 1 x) (chars_past_char (chars_rest s) (chars_rest t) c u h)))

-- and at its end
pub back_step : (text front : List ℕ) (c : ℕ) → IsUtf8 text → IsScalar c → text ≡ front ++ encode c
    → IsCharBoundary text (length front) × (chars front ≡ take (length (chars text) - 1) (chars text))
back_step text before c u ok h =
    let seam = IsCharBoundary-at_seam text before (encode c) h (IsUtf8-encode c ok) in
    let cut : take (length before) text ≡ before = ap (λ x. take (length before) x) h ∙ take_at before (encode c) (length before) refl in
    let front : IsUtf8 before = subst IsUtf8 cut (IsUtf8-take text (length before) u seam) in
    let one : chars (encode c) ≡ c ∷ [] = chars_past_char (encode c) [] c (IsUtf8-encode c ok) (sym (append-nil (encode c))) ∙ ap (λ x. c ∷ x) chars-nil in
    let all : chars text ≡ chars before ++ c ∷ [] = ap chars h ∙ (chars-append before (encode c) front ∙ ap (λ x. chars before ++ x) one) in
    let longer = length-append (chars before) (c ∷ []) in
    let shorter : length (chars before) ≡ length (chars text) - 1 = omega (arith, ap length all, longer) in
    (seam, sym (ap (λ x. take (length (chars text) - 1) x) all ∙ take_at (chars before) (c ∷ []) (length (chars text) - 1) shorter))
