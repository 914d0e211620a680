-- The longest of two lists of candidates.
use Rattle.std.proofs.Common.{◌≡◌, ◌⊎◌, inl, inr, ⊎_elim, ℕ, zero, suc, ◌≤◌, ◌<◌, Bool, true, false, ◌==◌, Option, Some, None, List, [], ◌∷◌, ◌++◌, length, get_or, codes, refl, sym, ap, ◌∙◌, subst, arith}
use Rattle.std.specs.List.{AllByRecursion}
use Rattle.std.proofs.lemmas.Bool.{eqb-true}
use Rattle.std.proofs.lemmas.List.{length-append, get_or_at, get_or_append_left, append_cancel_right}
use Rattle.turtle_grammar.specs.Pattern.{Pattern, ◌then◌, char, Matches}
use Rattle.turtle_grammar.specs.Terminals.{pattern, name_rest}
use Rattle.turtle_grammar.specs.declared.token.TokenKind.{TokenKind}
use Rattle.turtle_grammar.specs.declared.token.TokenKind.TheVariants.{A, True, False, Prefix, Base}
use Rattle.turtle_lex.specs.Places.{chars_from, Reads}
use Rattle.turtle_lex.specs.Picks.{Candidate, IsOne, IsNoLonger, Picks, PicksAt}
use Rattle.turtle_lex.specs.Kinds.{others, words, tokens, letters, letter_class, wanting}
use Rattle.turtle_lex.specs.Names.{prefix}

none_both : (rs ss : List Candidate) (text : List ℕ) → Picks rs text None → Picks ss text None → Picks (rs ++ ss) text None
none_both [] ss text h k = k
none_both (r ∷ rs) ss text h k = (h.0, none_both rs ss text h.1 k)

one_left : (rs ss : List Candidate) (kind : TokenKind) (front : List ℕ) → IsOne rs kind front → IsOne (rs ++ ss) kind front
one_left [] ss kind front h = absurd h
one_left (r ∷ rs) ss kind front h = ⊎_elim (λ x. inl x) (λ x. inr (one_left rs ss kind front x)) h

one_right : (rs ss : List Candidate) (kind : TokenKind) (front : List ℕ) → IsOne ss kind front → IsOne (rs ++ ss) kind front
one_right [] ss kind front h = h
one_right (r ∷ rs) ss kind front h = inr (one_right rs ss kind front h)

all_both : (P : Candidate → Type 0) (rs ss : List Candidate) → AllByRecursion P rs → AllByRecursion P ss → AllByRecursion P (rs ++ ss)
all_both P [] ss h k = k
all_both P (r ∷ rs) ss h k = (h.0, all_both P rs ss h.1 k)

no_longer : (rs : List Candidate) (text front : List ℕ) (kind : TokenKind) → Picks rs text None → AllByRecursion (IsNoLonger text front kind) rs
no_longer [] text front kind h = tt
no_longer (r ∷ rs) text front kind h = (record { shorter = λ a b w m. absurd (h.0.none a b w m) }, no_longer rs text front kind h.1)

-- nothing on the left
pub merge_right : (rs ss : List Candidate) (text : List ℕ) (at : ℕ) (found : Option (TokenKind × ℕ)) → PicksAt rs text at None → PicksAt ss text at found → PicksAt (rs ++ ss) text at found
merge_right rs ss text at None h k = none_both rs ss (chars_from text at) h k
merge_right rs ss text at (Some (kind, upto)) h k = (
  record {
    front = k.0.front;
    whole = k.0.whole;
    fits = one_right rs ss kind k.0.front k.0.fits;
    longest = all_both (IsNoLonger (chars_from text at) k.0.front kind) rs ss (no_longer rs (chars_from text at) k.0.front kind h) k.0.longest;
  },
  k.1,
  k.2,
)

-- what is found on the left is longer
pub merge_left : (rs ss : List Candidate) (text : List ℕ) (at : ℕ) (x : TokenKind × ℕ) → (h : PicksAt rs text at (Some x)) → AllByRecursion (IsNoLonger (chars_from text at) h.0.front x.0) ss → PicksAt (rs ++ ss) text at (Some x)
merge_left rs ss text at x h k = (
  record {
    front = h.0.front;
    whole = h.0.whole;
    fits = one_left rs ss x.0 h.0.front h.0.fits;
    longest = all_both (IsNoLonger (chars_from text at) h.0.front x.0) rs ss h.0.longest k;
  },
  h.1,
  h.2,
)

-- A name has a colon, and a word has none.
abbrev HasColon : List ℕ → Type 0
HasColon front = (i : ℕ) × (i < length front) × (get_or front i 0 ≡ 58)

colon_in : (p : Pattern) (front : List ℕ) → Matches (p then char 58) front → HasColon front
colon_in p front m =
    let a = m.0 in
    let b_is : m.1 ≡ 58 ∷ [] = m.3.2 ∙ ap (λ x. x ∷ []) (eqb-true m.3.0 58 m.3.1) in
    let whole : front ≡ a ++ 58 ∷ [] = m.4 ∙ ap (λ x. a ++ x) b_is in
    (length a, omega (arith, ap length whole, length-append a (58 ∷ [])), ap (λ x. get_or x (length a) 0) whole ∙ get_or_at a 58 [] 0 (length a) refl)

colon_left : (a b front : List ℕ) → front ≡ a ++ b → HasColon a → HasColon front
colon_left a b front w h =
    (h.0, omega (arith, h.1, ap length w, length-append a b), ap (λ x. get_or x h.0 0) w ∙ (get_or_append_left a b 0 h.0 h.1 ∙ h.2))

name_has_colon : (kind : TokenKind) (front : List ℕ) → IsOne prefix kind front → HasColon front
name_has_colon kind front (inl x) = colon_in name_rest front x.1
name_has_colon kind front (inr (inl x)) = colon_left x.1.0 x.1.1 front x.1.4 (colon_in name_rest x.1.0 x.1.2)
name_has_colon kind front (inr (inr x)) = absurd x

abbrev AllOther : List ℕ → Type 0
AllOther = AllByRecursion (λ (c : ℕ). (58 == c) ≡ false)

letter_no_colon : (b : Bool) (c : ℕ) → (58 == c) ≡ false → letter_class b c 58 ≡ true → ⊥
letter_no_colon false c e h = cc
letter_no_colon true c e h = cc

letters_split : (b : Bool) (c : ℕ) (cs a : List ℕ) → Matches (letters b (c ∷ cs)) a → (d : ℕ) × (rest : List ℕ) × (letter_class b c d ≡ true) × Matches (letters b cs) rest × (a ≡ d ∷ rest)
letters_split false c cs a m = (m.2.0, m.1, m.2.1, m.3, m.4 ∙ ap (λ z. z ++ m.1) m.2.2)
letters_split true c cs a m = (m.2.0, m.1, m.2.1, m.3, m.4 ∙ ap (λ z. z ++ m.1) m.2.2)

letters_nil : (b : Bool) (a : List ℕ) → Matches (letters b []) a → a ≡ []
letters_nil false a m = m
letters_nil true a m = m

here_or_later : (d : ℕ) (rest : List ℕ) (i : ℕ) → i < suc (length rest) → get_or (d ∷ rest) i 0 ≡ 58 → (d ≡ 58) ⊎ ((j : ℕ) × (j < length rest) × (get_or rest j 0 ≡ 58))
here_or_later d rest zero lt e = inl e
here_or_later d rest (suc j) lt e = inr (j, omega arith, e)

no_colon : (b : Bool) (cs a : List ℕ) → AllOther cs → Matches (letters b cs) a → HasColon a → ⊥
no_colon b [] a all m h = let e = ap length (letters_nil b a m) in absurd (omega (arith, h.1))
no_colon b (c ∷ cs) a all m h =
    let s = letters_split b c cs a m in
    let lt : h.0 < suc (length s.1) = omega (arith, h.1, ap length s.4) in
    let e : get_or (s.0 ∷ s.1) h.0 0 ≡ 58 = ap (λ x. get_or x h.0 0) (sym s.4) ∙ h.2 in
    ⊎_elim
    (λ k. letter_no_colon b c all.0 (ap (letter_class b c) (sym k) ∙ s.2))
    (λ k. no_colon b cs s.1 all.1 s.3 k)
    (here_or_later s.0 s.1 h.0 lt e)

below_or : (n i : ℕ) → (n ≤ i) ⊎ (i < n)
below_or n i = grind arith

-- a front without a colon is shorter than one that has one
shorter_front : (text front back a b : List ℕ) → text ≡ front ++ back → text ≡ a ++ b → (h : HasColon front) → (HasColon a → ⊥) → length a < length front
shorter_front text front back a b w v h none =
    ⊎_elim
    (λ lt. omega (arith, h.1))
    (λ le. absurd (none (
      h.0,
      le,
      sym (get_or_append_left a b 0 h.0 le) ∙ (ap (λ x. get_or x h.0 0) (sym v ∙ w) ∙ (get_or_append_left front back 0 h.0 h.1 ∙ h.2)),
    )))
    (below_or (length a) h.0)

word_shorter : (b : Bool) (cs : List ℕ) (kind : TokenKind) (text front back : List ℕ) (other : TokenKind) → AllOther cs → text ≡ front ++ back → HasColon front → IsNoLonger text front kind (wanting other (letters b cs))
word_shorter b cs kind text front back other all w h = record { shorter = λ x y v m. inl (shorter_front text front back x y w v h (no_colon b cs x all m)) }

-- no word is so long as a text with a colon
pub words_shorter : (kind : TokenKind) (text front back : List ℕ) → text ≡ front ++ back → HasColon front → AllByRecursion (IsNoLonger text front kind) words
unfolding pattern
words_shorter kind text front back w h = (
  word_shorter false (codes "a") kind text front back A (refl, tt) w h,
  (
    word_shorter false (codes "true") kind text front back True (refl, (refl, (refl, (refl, tt)))) w h,
    (
      word_shorter false (codes "false") kind text front back False (refl, (refl, (refl, (refl, (refl, tt))))) w h,
      (
        word_shorter true (codes "prefix") kind text front back Prefix (refl, (refl, (refl, (refl, (refl, (refl, tt)))))) w h,
        (
          word_shorter true (codes "base") kind text front back Base (refl, (refl, (refl, (refl, tt)))) w h,
          tt,
        ),
      ),
    ),
  ),
)

-- A name that begins with c is longer than each word.
pub name_wins : (text : List ℕ) (at c next : ℕ) (x : TokenKind × ℕ) → Reads text at c next → (n : PicksAt prefix text next (Some x)) → (h : PicksAt others text at (Some x)) → PicksAt tokens text at (Some x)
name_wins text at c next x r n h =
    let back = chars_from text x.1 in
    let colon = name_has_colon x.0 n.0.front n.0.fits in
    let whole : chars_from text at ≡ (c ∷ n.0.front) ++ back = r.reads ∙ ap (λ y. c ∷ y) n.0.whole in
    let there : HasColon (c ∷ n.0.front) = (suc colon.0, omega (arith, colon.1), colon.2) in
    let front_is : h.0.front ≡ c ∷ n.0.front = append_cancel_right h.0.front (c ∷ n.0.front) back (sym h.0.whole ∙ whole) in
    let P : List ℕ → Type 0 = HasColon in
    merge_left others words text at x h (words_shorter x.0 (chars_from text at) h.0.front back h.0.whole (subst P (sym front_is) there))
