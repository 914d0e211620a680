-- How a text is cut at the first byte that ends a word.
use Rattle.std.proofs.Common.{◌≡◌, ℕ, suc, ◌+◌, ◌≤◌, Bool, true, false, not, cond, List, [], ◌∷◌, ◌++◌, ◌==◌, length, take, drop, min, refl, sym, ap, Some, None, ◌∙◌, ⊎_elim, arith, ne_eqb}
use Rattle.std.specs.List.{position, position_or_len}
use Rattle.std.specs.Option.{unwrap_or}
use Rattle.std.specs.Str.Parse.{AllDigits}
use Rattle.std.proofs.lemmas.Bool.{cases_lt, cond-true, cond-false, or_from}
use Rattle.std.proofs.lemmas.Bool.Decides.{leb_tells}
use Rattle.std.proofs.lemmas.List.{drop_all}
use Rattle.std.proofs.lemmas.List.Sums.{prefix_len-le-length}
use Rattle.std.proofs.lemmas.Str.Parse.{digit_from_value}
use Rattle.step_record.specs.Words.{is_end, word, rest}

-- the first that passes, or the length
pub or_length : {X : Type 0} (p : X → Bool) (xs : List X) → unwrap_or (position p xs) (length xs) ≡ position_or_len p xs
or_length p xs =
    let n : ℕ = position_or_len p xs in
    let within : n ≤ length xs = prefix_len-le-length (λ x. not (p x)) xs in
    ⊎_elim
    (λ t. ap (λ b. unwrap_or (cond b (Some n) None) (length xs)) t.0)
    (λ t. let same : length xs ≡ n = omega (arith, t.1) in ap (λ b. unwrap_or (cond b (Some n) None) (length xs)) t.0 ∙ same)
    (leb_tells (suc n) (length xs))

pub position-within : {X : Type 0} (p : X → Bool) (xs : List X) → position_or_len p xs ≤ length xs
position-within p xs = prefix_len-le-length (λ x. not (p x)) xs

-- a word, and what follows it, by the place where the word ends
word_front : (t : Bool) (c n : ℕ) (cs front : List ℕ) → front ≡ take n cs → cond t [] (c ∷ front) ≡ take (cond (not t) (1 + n) 0) (c ∷ cs)
word_front true c n cs front e = refl
word_front false c n cs front e = let next : suc n ≡ 1 + n = omega arith in ap (λ w. c ∷ w) e ∙ ap (λ m. take m (c ∷ cs)) next

pub word_take : (text : List ℕ) → word text ≡ take (position_or_len is_end text) text
word_take [] = refl
word_take (c ∷ cs) = word_front (is_end c) c (position_or_len is_end cs) cs (word cs) (word_take cs)

rest_back : (t : Bool) (c n : ℕ) (cs back : List ℕ) → back ≡ drop (n + 1) cs → cond t cs back ≡ drop (cond (not t) (1 + n) 0 + 1) (c ∷ cs)
rest_back true c n cs back e = refl
rest_back false c n cs back e = let next : suc (n + 1) ≡ (1 + n) + 1 = omega arith in e ∙ ap (λ m. drop m (c ∷ cs)) next

rest_drop : (text : List ℕ) → rest text ≡ drop (position_or_len is_end text + 1) text
rest_drop [] = sym (drop_all (0 + 1) [] (omega arith))
rest_drop (c ∷ cs) = rest_back (is_end c) c (position_or_len is_end cs) cs (rest cs) (rest_drop cs)

-- the same, at most to the end
pub rest_cut : (text : List ℕ) → rest text ≡ drop (min (position_or_len is_end text + 1) (length text)) text
rest_cut text =
    let n = position_or_len is_end text in
    rest_drop text ∙ ⊎_elim
    (λ inside. let same : n + 1 ≡ min (n + 1) (length text) = omega arith in ap (λ m. drop m text) same)
    (λ past. let all : length text ≡ min (n + 1) (length text) = omega arith in
    drop_all (n + 1) text (omega arith) ∙ sym (drop_all (length text) text (omega arith)) ∙ ap (λ m. drop m text) all)
    (cases_lt n (length text))

-- no byte ends a word
abbrev pub Unbroken : List ℕ → Type 0
Unbroken [] = Unit {0}
Unbroken (c ∷ cs) = (is_end c ≡ false) × Unbroken cs

-- a word before a byte that ends it
pub word_at : (xs : List ℕ) (s : ℕ) (ys : List ℕ) → Unbroken xs → is_end s ≡ true → word (xs ++ s ∷ ys) ≡ xs
word_at [] s ys h e = cond-true (is_end s) [] (s ∷ word ys) e
word_at (c ∷ cs) s ys h e = cond-false (is_end c) [] (c ∷ word (cs ++ s ∷ ys)) h.0 ∙ ap (λ w. c ∷ w) (word_at cs s ys h.1 e)

pub rest_at : (xs : List ℕ) (s : ℕ) (ys : List ℕ) → Unbroken xs → is_end s ≡ true → rest (xs ++ s ∷ ys) ≡ ys
rest_at [] s ys h e = cond-true (is_end s) ys (rest ys) e
rest_at (c ∷ cs) s ys h e = cond-false (is_end c) (cs ++ s ∷ ys) (rest (cs ++ s ∷ ys)) h.0 ∙ rest_at cs s ys h.1 e

-- digits are unbroken
pub Unbroken-digits : (ds : List ℕ) → AllDigits 10 ds → Unbroken ds
Unbroken-digits [] d = tt
Unbroken-digits (c ∷ cs) d =
    let range = digit_from_value c d.0 in
    let space : c ≡ 32 → ⊥ = λ e. omega (arith, range) in
    let feed : c ≡ 10 → ⊥ = λ e. omega (arith, range) in
    (or_from (c == 32) (c == 10) (ne_eqb c 32 space) (ne_eqb c 10 feed), Unbroken-digits cs d.1)
