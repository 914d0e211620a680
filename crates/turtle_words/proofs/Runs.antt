-- What a pattern leaves after a text, and the longest front that it matches.
use Rattle.std.proofs.Common.{◌≡◌, inl, inr, ⊎_elim, ℕ, zero, suc, ◌<◌, ◌≤◌, Bool, true, false, not, cond, ◌||◌, ◌==◌, List, [], ◌∷◌, ◌++◌, length, take, refl, sym, ap, ◌∙◌, subst, true≢false, arith, length-append}
use Rattle.std.proofs.lemmas.Bool.{cases_lt, eqb-true, and_parts, or_cases}
use Rattle.std.proofs.lemmas.List.{take_at}
use Rattle.turtle_grammar.specs.Characters.{is_white, is_line_end}
use Rattle.turtle_grammar.specs.Pattern.{Pattern, fails, nothing, one, ◌then◌, ◌or◌, many, is_empty, after, in_row, either, maybe, matches}
use Rattle.turtle_grammar.specs.Terminals.{comment, gap}
use Rattle.turtle_grammar.specs.Tokens.{IsLongest}
use Rattle.turtle_grammar.proofs.Derivatives.{sound, complete, moved}
use Rattle.turtle_words.specs.Words.{are_white}

-- what may follow a text
abbrev pub after_all : List ℕ → Pattern → Pattern
after_all [] p = p
after_all (c ∷ text) p = after_all text (after c p)

pub matches-append : (a b : List ℕ) (p : Pattern) → matches p (a ++ b) ≡ matches (after_all a p) b
matches-append [] b p = refl
matches-append (c ∷ a) b p = matches-append a b (after c p)

pub matches-whole : (a : List ℕ) (p : Pattern) → matches p a ≡ is_empty (after_all a p)
matches-whole [] p = refl
matches-whole (c ∷ a) p = matches-whole a (after c p)

pub fails_all : (text : List ℕ) → matches fails text ≡ false
fails_all [] = refl
fails_all (c ∷ text) = fails_all text

abbrev pub is_fails : Pattern → Bool
is_fails fails = true
is_fails nothing = false
is_fails (one class) = false
is_fails (p then q) = false
is_fails (p or q) = false
is_fails (many p) = false

pub none_left : (p : Pattern) (text : List ℕ) → is_fails p ≡ true → matches p text ≡ false
none_left fails text h = fails_all text
none_left nothing text h = cc
none_left (one class) text h = cc
none_left (p then q) text h = cc
none_left (p or q) text h = cc
none_left (many p) text h = cc

-- a longer front of two texts one after another
pub record Past (t rest : List ℕ) (m : ℕ) : Type 0 where
  pub next : ℕ
  pub more : List ℕ
  pub left : List ℕ
  pub front : take m (t ++ rest) ≡ t ++ next ∷ more
  pub begins : rest ≡ next ∷ left

pub past : (t rest : List ℕ) (m : ℕ) → length t < m → m ≤ length (t ++ rest) → Past t rest m
past [] [] m lt le = absurd (omega arith)
past [] (c ∷ rest) zero lt le = absurd (omega arith)
past [] (c ∷ rest) (suc m) lt le = record { next = c; more = take m rest; left = rest; front = refl; begins = refl }
past (d ∷ t) rest zero lt le = absurd (omega arith)
past (d ∷ t) rest (suc m) lt le =
    let r = past t rest m (omega arith) (omega arith) in
    record { next = r.next; more = r.more; left = r.left; front = ap (λ l. d ∷ l) r.front; begins = r.begins }

within : (t rest : List ℕ) → length t ≤ length (t ++ rest)
within t rest = omega (arith, length-append t rest)

-- a text is of a pattern, and what follows it lets nothing longer be
pub longest : (p : Pattern) (t rest : List ℕ) → is_empty (after_all t p) ≡ true
    → ((c : ℕ) (left : List ℕ) → rest ≡ c ∷ left → is_fails (after c (after_all t p)) ≡ true) → IsLongest p (t ++ rest) (length t)
longest p t rest empty stops = (
  within t rest,
  moved p t (take (length t) (t ++ rest)) (sym (take_at t rest (length t) refl)) (sound p t (matches-whole t p ∙ empty)),
  λ m le h. elim (cases_lt (length t) m) [
    | inl longer ↦
        let r = past t rest m longer le in
        let yes : matches p (t ++ r.next ∷ r.more) ≡ true = sym (ap (matches p) r.front) ∙ complete p (take m (t ++ rest)) h in
        let no : matches p (t ++ r.next ∷ r.more) ≡ false = matches-append t (r.next ∷ r.more) p ∙ none_left (after r.next (after_all t p)) r.more (stops r.next r.left r.begins) in
        absurd (true≢false (sym yes ∙ no))
    | inr short ↦ short
  ],
)

-- ---- white space

pub white_is : (P : ℕ → Type 0) → P 32 → P 9 → P 13 → P 10 → (c : ℕ) → is_white c ≡ true → P c
unfolding is_white
white_is P space tab return feed c h =
    ⊎_elim (λ e. at 32 space e)
    (λ h. ⊎_elim (λ e. at 9 tab e)
    (λ h. ⊎_elim (λ e. at 13 return e)
    (λ h. ⊎_elim (λ e. at 10 feed e) (λ never. absurd (true≢false (sym never))) (or_cases (c == 10) false h)) (or_cases (c == 13) (c == 10 || false) h))
    (or_cases (c == 9) (c == 13 || (c == 10 || false)) h))
    (or_cases (c == 32) (c == 9 || (c == 13 || (c == 10 || false))) h)
  where
    at : (k : ℕ) → P k → (c == k) ≡ true → P c
    at k p e = subst P (sym (eqb-true c k e)) p

gap_goes_on : (c : ℕ) → is_white c ≡ true → after c gap ≡ gap
unfolding gap is_white is_line_end
gap_goes_on c h = white_is (λ c. after c gap ≡ gap) refl refl refl refl c h

pub gap_after : (g : List ℕ) → are_white g ≡ true → after_all g gap ≡ gap
gap_after [] h = refl
gap_after (c ∷ g) h =
    let k = and_parts (is_white c) (are_white g) h in
    ap (after_all g) (gap_goes_on c k.0) ∙ gap_after g k.1

pub gap_empty : is_empty gap ≡ true
unfolding gap
gap_empty = refl

-- what may follow in a comment and in a gap, by whether a character begins a comment and is white space
abbrev comment_after : Bool → Pattern
comment_after mark = either (in_row (cond mark nothing fails) (many (one (λ c. not (is_line_end c))))) fails

abbrev gap_after_by : Bool → Bool → Pattern
gap_after_by white mark =
    either
    (in_row
    (in_row (either (cond white nothing fails) (either (in_row (comment_after mark) (one is_line_end)) fails)) (many (one is_white or (comment then one is_line_end))))
    (maybe comment))
    (either (comment_after mark) fails)

-- neither white space nor the mark of a comment: no gap goes on with it
pub gap_stops : (c : ℕ) → not (is_white c || c == 35) ≡ true → is_fails (after c gap) ≡ true
unfolding gap
gap_stops c h = by (is_white c) (c == 35) h
  where
    by : (white mark : Bool) → not (white || mark) ≡ true → is_fails (gap_after_by white mark) ≡ true
    by true mark h = cc
    by false true h = cc
    by false false h = refl
