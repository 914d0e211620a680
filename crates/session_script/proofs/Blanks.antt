-- What a line that begins with a blank says without it.
use Rattle.std.proofs.Common.{◌≡◌, ℕ, ◌<◌, true, Some, List, [], ◌∷◌, drop, sym, arith}
use Rattle.std.specs.Prelude.{slice_get, IsUtf8}
use Rattle.std.specs.Str.{IsCharBoundary}
use Rattle.std.proofs.lemmas.Bool.Decides.{nat_tests}
use Rattle.std.proofs.lemmas.Str.{IsCharBoundary-after_ascii}
use Rattle.session_script.specs.Words.{is_blank, words}
use Rattle.session_script.proofs.Cuts.{words-blank}

low : (byte : ℕ) → is_blank byte ≡ true → byte < 128
low byte h = grind (arith, nat_tests)

same_first : (x : ℕ) (first : ℕ) → Some x ≡ Some first → x ≡ first
same_first x first e = cc

-- a line may be cut after its first blank
pub blank_boundary : (line : List ℕ) (first : ℕ) → IsUtf8 line → slice_get line 0 ≡ Some first → is_blank first ≡ true → IsCharBoundary line 1
blank_boundary [] first text e h = absurd (cc)
blank_boundary (x ∷ xs) first text e h =
    let same : x ≡ first = same_first x first e in
    let small : first < 128 = low first h in
    IsCharBoundary-after_ascii (x ∷ xs) 0 text (omega arith) (omega arith)

-- and says the same
pub blank_words : (line : List ℕ) (first : ℕ) → slice_get line 0 ≡ Some first → is_blank first ≡ true → words (drop 1 line) ≡ words line
blank_words [] first e h = absurd (cc)
blank_words (x ∷ xs) first e h = sym (words-blank x xs (rw (← same_first x first e) at h))
