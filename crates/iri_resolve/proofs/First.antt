-- The first and the last place that passes a test, as searches give it and as a length.
use Rattle.std.proofs.Common.{◌≡◌, ℕ, ◌<◌, ◌≤◌, Bool, true, false, cond, not, ◌+◌, ◌-◌, List, length, Option, None, Some, unwrap_or, refl, sym, arith}
use Rattle.std.specs.Prelude.{position, nat_lt}
use Rattle.std.specs.List.{position_or_len, suffix_len}
use Rattle.std.proofs.lemmas.List.Sums.{position_or_len_is, prefix_len-le-length, suffix_len_is}
use Rattle.std.proofs.lemmas.Bool.{false_from_ne_true, ltb-false, not_from_false, not_from_true}
use Rattle.std.specs.Option.{option_map_or}
use Rattle.memchr.specs.Find.{IsFirstByte, IsLastByte}

picked : (at len : ℕ) → at ≤ len → (b : Bool) → nat_lt at len ≡ b → unwrap_or (cond b (Some at) None) len ≡ at
picked at len within true e = refl
picked at len within false e = omega (arith, ltb-false at len e)

-- of `memchr`
pub first_or_len : (test : ℕ → Bool) (hay : List ℕ) (r : Option ℕ) → IsFirstByte test hay r → unwrap_or r (length hay) ≡ position_or_len test hay
first_or_len test hay None h =
    sym (position_or_len_is test hay (length hay) 0 (omega arith) (λ k below. false_from_ne_true _ (h k (omega arith) below)) (λ less. absurd (omega arith)))
first_or_len test hay (Some k) h =
    sym (position_or_len_is test hay k 0 (let high : k < length hay = h.0.high in omega arith) (λ j below. false_from_ne_true _ (h.0.before j (omega arith) below)) (λ less. h.1))

-- of `position`
pub position_or_end : (test : ℕ → Bool) (xs : List ℕ) → unwrap_or (position test xs) (length xs) ≡ position_or_len test xs
position_or_end test xs = picked (position_or_len test xs) (length xs) (prefix_len-le-length _ xs) _ refl

-- of `memrchr`: from the place after it on, nothing passes
pub last_end : (test : ℕ → Bool) (hay : List ℕ) (r : Option ℕ) → IsLastByte test hay r → length hay - suffix_len (λ c. not (test c)) hay ≡ option_map_or (λ k. k + 1) r 0
last_end test hay None h =
    let all : suffix_len (λ c. not (test c)) hay ≡ length hay - 0 =
    suffix_len_is _ hay 0 0 (omega arith) (λ k low high. not_from_false _ (false_from_ne_true _ (h k low high))) (λ less. absurd (omega arith)) in
    omega arith
last_end test hay (Some k) h =
    let high : k < length hay = h.0.high in
    let after : suffix_len (λ c. not (test c)) hay ≡ length hay - (k + 1) =
    suffix_len_is _ hay (k + 1) 0 (omega arith) (λ j low below. not_from_false _ (false_from_ne_true _ (h.0.after j low below)))
    (λ less. let same : k + 1 - 1 ≡ k = omega arith in rw same (not_from_true _ h.1)) in
    omega arith

-- the place before that, or 0
pub last_or_zero : (test : ℕ → Bool) (hay : List ℕ) (r : Option ℕ) → IsLastByte test hay r → unwrap_or r 0 ≡ length hay - suffix_len (λ c. not (test c)) hay - 1
last_or_zero test hay None h = let end : length hay - suffix_len (λ c. not (test c)) hay ≡ 0 = last_end test hay None h in omega arith
last_or_zero test hay (Some k) h =
    let end : length hay - suffix_len (λ c. not (test c)) hay ≡ k + 1 = last_end test hay (Some k) h in omega arith
