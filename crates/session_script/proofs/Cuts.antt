-- How the words of a line follow from its bytes.
use Rattle.std.proofs.Common.{◌≡◌, ℕ, suc, ◌+◌, ◌-◌, ◌<◌, ◌≤◌, Bool, true, false, not, cond, eqb, List, [], ◌∷◌, length, take, drop, get_or, sym, ap, subst, Some, None, ◌∙◌, ⊎_elim, arith}
use Rattle.std.specs.List.{filter, slice_split, position, position_or_len, All}
use Rattle.std.specs.Option.{unwrap_or}
use Rattle.std.specs.Str.{IsCharBoundary}
use Rattle.std.proofs.lemmas.Bool.Decides.{leb_tells, nat_tests}
use Rattle.std.proofs.lemmas.Bool.{cases_lt}
use Rattle.std.proofs.lemmas.List.{drop_more, drop_all, take_all, length-take-le}
use Rattle.std.proofs.lemmas.List.Elements.{All-from_get_or}
use Rattle.std.proofs.lemmas.List.Splits.{slice_split-cons_yes, slice_split_first, slice_split_none}
use Rattle.std.proofs.lemmas.List.Sums.{prefix_len_passes, prefix_len_stops, prefix_len-le-length}
use borrow.Author.Tests.{ne_eqb}
use Rattle.session_script.specs.Words.{is_blank, is_word, words}
use Rattle.session_script.proofs.Booleans.{not-true, not-false}

low : (byte : ℕ) → is_blank byte ≡ true → byte < 128
low byte h = grind (arith, nat_tests)

-- a blank adds no word
pub words-blank : (byte : ℕ) (line : List ℕ) → is_blank byte ≡ true → words (byte ∷ line) ≡ words line
words-blank byte line h = ap (filter is_word) (slice_split-cons_yes is_blank byte line h)

-- a part with bytes stays
filter-word : (part : List ℕ) (parts : List (List ℕ)) → 0 < length part → filter is_word (part ∷ parts) ≡ part ∷ filter is_word parts
filter-word part parts h =
    ap (λ t. cond t (part ∷ filter is_word parts) (filter is_word parts)) (ap not (ne_eqb (length part) 0 (λ e. omega arith)))

-- a line that begins with a word
pub words-word : (line : List ℕ) → 0 < position_or_len is_blank line → words line ≡ take (position_or_len is_blank line) line ∷ words (drop (position_or_len is_blank line) line)
words-word line h =
    let n : ℕ = position_or_len is_blank line in
    let within : n ≤ length line = prefix_len-le-length (λ byte. not (is_blank byte)) line in
    let long : 0 < length (take n line) = omega (arith, length-take-le n line within) in
    ⊎_elim
    (λ l. let blank : is_blank (get_or line n 0) ≡ true = not-false _ (prefix_len_stops (λ byte. not (is_blank byte)) line 0 l) in
    ap (filter is_word) (slice_split_first is_blank line 0 l) ∙ filter-word (take n line) (slice_split is_blank (drop (n + 1) line)) long
    ∙ ap (λ ws. take n line ∷ ws) (sym (ap words (drop_more line n 0 l) ∙ words-blank (get_or line n 0) (drop (n + 1) line) blank)))
    (λ l. let none : All (λ byte. is_blank byte ≡ false) line = All-from_get_or (λ byte. is_blank byte ≡ false) line 0
    (λ i below. not-true _ (prefix_len_passes (λ byte. not (is_blank byte)) line i 0 (omega arith))) in
    let some : 0 < length line = omega arith in
    ap (filter is_word) (slice_split_none is_blank line none) ∙ filter-word line [] some
    ∙ ap (λ w. w ∷ words []) (sym (take_all n line l)) ∙ ap (λ rest. take n line ∷ words rest) (sym (drop_all n line l)))
    (cases_lt n (length line))

-- the first that passes, or the length
pub or_length : {X : Type 0} (p : X → Bool) (xs : List X) → unwrap_or (position p xs) (length xs) ≡ position_or_len p xs
or_length p xs =
    let n : ℕ = position_or_len p xs in
    let within : n ≤ length xs = prefix_len-le-length (λ x. not (p x)) xs in
    ⊎_elim
    (λ t. ap (λ b. unwrap_or (cond b (Some n) None) (length xs)) t.0)
    (λ t. let same : length xs ≡ n = omega (arith, t.1) in ap (λ b. unwrap_or (cond b (Some n) None) (length xs)) t.0 ∙ same)
    (leb_tells (suc n) (length xs))

pub within_line : (line : List ℕ) → position_or_len is_blank line ≤ length line
within_line line = prefix_len-le-length (λ byte. not (is_blank byte)) line

pub nonempty : (line : List ℕ) (empty : Bool) → empty ≡ eqb (length line) 0 → empty ≡ false → 0 < length line
nonempty line empty e h = grind (arith, nat_tests)

-- the front of a line, as the code takes it
pub front : (line : List ℕ) (n : ℕ) → take (n - 0) (drop 0 line) ≡ take n line
front line n = let e : n - 0 ≡ n = omega arith in ap (λ m. take m line) e

-- a line may be cut after its first word
pub word_boundary : (line : List ℕ) (n : ℕ) → n ≡ position_or_len is_blank line → IsCharBoundary line n
word_boundary line n e =
    let k : ℕ = position_or_len is_blank line in
    let within : k ≤ length line = within_line line in
    let P : ℕ → Type 0 = λ m. IsCharBoundary line m in
    subst P (sym e) (
      within,
      λ l high. absurd (
          let blank : is_blank (get_or line k 0) ≡ true = not-false _ (prefix_len_stops (λ byte. not (is_blank byte)) line 0 l) in
          let small = low (get_or line k 0) blank in
          omega (arith, small, high)),
    )
