-- The words of a message, from its front and at its end.
use Rattle.std.proofs.Common.{◌≡◌, ℕ, zero, suc, ◌+◌, ◌-◌, ◌*◌, ◌/◌, ◌%◌, ◌^◌, ◌<◌, ◌≤◌, List, [], ◌∷◌, ◌++◌, length, take, drop, replicate, get_or, length-drop, refl, ap, sym, ◌∙◌, arith}
use Rattle.std.specs.Int.{w64, from_le_bytes}
use Rattle.std.proofs.lemmas.List.{drop-drop}
use Rattle.std.specs.Prelude.{fold}
use Rattle.std.specs.Simd.{first_chunks}
use Rattle.seeded_hash.specs.declared.hasher.SeededHasher.{SeededHasher}
use Rattle.seeded_hash.specs.SipHash.{words, compress, absorb, padding}

-- eight bytes at the front are one word
words-front : (xs pad : List ℕ) → 8 ≤ length xs → words (xs ++ pad) ≡ from_le_bytes w64 (take 8 xs) ∷ words (drop 8 xs ++ pad)
unfolding words
words-front (a ∷ b ∷ c ∷ d ∷ e ∷ f ∷ g ∷ h ∷ rest) pad long = refl
words-front _ pad long = absurd (omega arith)

one_word : {x y : ℕ} → x ≡ y → x ∷ [] ≡ y ∷ []
one_word e = ap (λ w. w ∷ []) e

-- fewer bytes, zeros and the count n are one word
words-end : (rest : List ℕ) (n : ℕ) → length rest < 8 → words (rest ++ (replicate (7 - length rest) 0 ++ n ∷ [])) ≡ (from_le_bytes w64 rest + n * 2 ^ 56) ∷ []
unfolding words
words-end [] n short = one_word (omega arith)
words-end (a ∷ []) n short = one_word (omega arith)
words-end (a ∷ b ∷ []) n short = one_word (omega arith)
words-end (a ∷ b ∷ c ∷ []) n short = one_word (omega arith)
words-end (a ∷ b ∷ c ∷ d ∷ []) n short = one_word (omega arith)
words-end (a ∷ b ∷ c ∷ d ∷ e ∷ []) n short = one_word (omega arith)
words-end (a ∷ b ∷ c ∷ d ∷ e ∷ f ∷ []) n short = one_word (omega arith)
words-end (a ∷ b ∷ c ∷ d ∷ e ∷ f ∷ g ∷ []) n short = one_word (omega arith)
words-end _ n short = absurd (omega arith)

-- s is the state after the first i words of the message m, which begins at the state s₀
abbrev pub IsAt : SeededHasher → SeededHasher → List ℕ → ℕ → Type 0
IsAt s₀ s m i = fold compress s (words (drop (8 * i) m ++ padding (length m))) ≡ absorb s₀ m

pub at-start : (s : SeededHasher) (m : List ℕ) → IsAt s s m 0
unfolding absorb
at-start s m = refl

pub at-more : (s₀ s : SeededHasher) (m : List ℕ) (i : ℕ) → 8 * i + 8 ≤ length m → IsAt s₀ s m i → IsAt s₀ (compress s (from_le_bytes w64 (take 8 (drop (8 * i) m)))) m (i + 1)
at-more s₀ s m i within so_far =
    let next : 8 * (i + 1) ≡ 8 * i + 8 = omega arith in
    let front = words-front (drop (8 * i) m) (padding (length m)) (omega (arith, length-drop (8 * i) m)) in
    rw (next, ← drop-drop 8 (8 * i) m) (ap (fold compress s) (sym front) ∙ so_far)

-- what fewer than eight bytes and the number n of all bytes come to
compressed-end : (s : SeededHasher) (rest : List ℕ) (n : ℕ) → length rest ≡ n % 8 → fold compress s (words (rest ++ padding n)) ≡ compress s (from_le_bytes w64 rest + n % 256 * 2 ^ 56)
compressed-end s rest n left = rw (← left) (ap (fold compress s) (words-end rest (n % 256) (omega arith)))

-- the word of the bytes that are left and their number ends the message
pub at-end : (s₀ s : SeededHasher) (m : List ℕ) → IsAt s₀ s m (length m / 8) → compress s (from_le_bytes w64 (drop (length m / 8 * 8) m) + length m % 256 * 2 ^ 56) ≡ absorb s₀ m
at-end s₀ s m so_far =
    let turned : 8 * (length m / 8) ≡ length m / 8 * 8 = omega arith in
    let left : length (drop (length m / 8 * 8) m) ≡ length m % 8 = omega (arith, length-drop (length m / 8 * 8) m) in
    sym (compressed-end s _ (length m) left) ∙ ap (λ k. fold compress s (words (drop k m ++ padding (length m)))) (sym turned) ∙ so_far

-- a message of fewer than eight bytes is one word
pub absorb-short : (s : SeededHasher) (m : List ℕ) → length m < 8 → absorb s m ≡ compress s (from_le_bytes w64 m + length m * 2 ^ 56)
unfolding absorb
absorb-short s m short =
    let count : length m % 256 ≡ length m = omega arith in
    compressed-end s m (length m) (omega arith) ∙ ap (λ n. compress s (from_le_bytes w64 m + n * 2 ^ 56)) count

-- a message of eight bytes is two words
pub absorb-word : (s : SeededHasher) (m : List ℕ) → length m ≡ 8 → absorb s m ≡ compress (compress s (from_le_bytes w64 m)) (8 * 2 ^ 56)
unfolding absorb words
absorb-word s (a ∷ b ∷ c ∷ d ∷ e ∷ f ∷ g ∷ h ∷ []) eight = refl
absorb-word s _ eight = absurd (omega arith)

-- the i-th chunk of eight elements
pub get_or-first_chunks : (k i : ℕ) (xs : List ℕ) (d : List ℕ) → i < k → get_or (first_chunks 8 k xs) i d ≡ take 8 (drop (8 * i) xs)
get_or-first_chunks zero i xs d in_range = absurd (omega arith)
get_or-first_chunks (suc k) zero xs d in_range = refl
get_or-first_chunks (suc k) (suc i) xs d in_range =
    let next : 8 + 8 * i ≡ 8 * suc i = omega arith in
    get_or-first_chunks k i (drop 8 xs) d (omega arith) ∙ ap (take 8) (drop-drop (8 * i) 8 xs ∙ ap (λ n. drop n xs) next)

-- a word without its lowest bytes
pub from_le_bytes-drop : (bs : List ℕ) (n : ℕ) → length bs ≡ 8 → ((i : ℕ) → get_or bs i 0 < 256) → n < 8 → from_le_bytes w64 bs / 2 ^ (8 * (7 - n)) / 256 ≡ from_le_bytes w64 (drop (8 - n) bs)
from_le_bytes-drop (a ∷ b ∷ c ∷ d ∷ e ∷ f ∷ g ∷ h ∷ []) zero eight bytes few = omega (arith, bytes 0, bytes 1, bytes 2, bytes 3, bytes 4, bytes 5, bytes 6, bytes 7)
from_le_bytes-drop (a ∷ b ∷ c ∷ d ∷ e ∷ f ∷ g ∷ h ∷ []) (suc zero) eight bytes few = omega (arith, bytes 0, bytes 1, bytes 2, bytes 3, bytes 4, bytes 5, bytes 6)
from_le_bytes-drop (a ∷ b ∷ c ∷ d ∷ e ∷ f ∷ g ∷ h ∷ []) (suc (suc zero)) eight bytes few = omega (arith, bytes 0, bytes 1, bytes 2, bytes 3, bytes 4, bytes 5)
from_le_bytes-drop (a ∷ b ∷ c ∷ d ∷ e ∷ f ∷ g ∷ h ∷ []) (suc (suc (suc zero))) eight bytes few = omega (arith, bytes 0, bytes 1, bytes 2, bytes 3, bytes 4)
from_le_bytes-drop (a ∷ b ∷ c ∷ d ∷ e ∷ f ∷ g ∷ h ∷ []) (suc (suc (suc (suc zero)))) eight bytes few = omega (arith, bytes 0, bytes 1, bytes 2, bytes 3)
from_le_bytes-drop (a ∷ b ∷ c ∷ d ∷ e ∷ f ∷ g ∷ h ∷ []) (suc (suc (suc (suc (suc zero))))) eight bytes few = omega (arith, bytes 0, bytes 1, bytes 2)
from_le_bytes-drop (a ∷ b ∷ c ∷ d ∷ e ∷ f ∷ g ∷ h ∷ []) (suc (suc (suc (suc (suc (suc zero)))))) eight bytes few = omega (arith, bytes 0, bytes 1)
from_le_bytes-drop (a ∷ b ∷ c ∷ d ∷ e ∷ f ∷ g ∷ h ∷ []) (suc (suc (suc (suc (suc (suc (suc zero))))))) eight bytes few = omega (arith, bytes 0)
from_le_bytes-drop _ _ eight bytes few = absurd (omega arith)
