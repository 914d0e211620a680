-- Words, marks, names and numbers with white space after them: each is the longest token there, and of one kind.
use Rattle.std.proofs.Common.{◌≡◌, inl, inr, ℕ, Bool, true, false, ◌&&◌, None, MatchOption, List, [], ◌∷◌, ◌++◌, length, take, refl, sym, ap, ◌∙◌, subst, true≢false, arith, length-append}
use Rattle.std.proofs.lemmas.Bool.{cases_lt, and_parts}
use Rattle.std.proofs.lemmas.List.{take_at}
use Rattle.std.specs.List.{list_all, AllByRecursion}
use Rattle.turtle_grammar.specs.Characters.{is_white}
use Rattle.turtle_grammar.specs.Pattern.{Pattern, Matches, after, matches}
use Rattle.turtle_grammar.specs.Terminals.{pattern}
use Rattle.turtle_grammar.specs.Tokens.{opened, FindsOpened, FindsPlain, Finds}
use Rattle.turtle_grammar.specs.Tokens.Found.{token}
use Rattle.turtle_grammar.specs.declared.token.TokenKind.{TokenKind}
use Rattle.turtle_grammar.specs.declared.token.TokenKind.TheVariants.{Iri, Namespace, PrefixedName, BlankLabel, LanguageTag, Integer, Decimal, Double, String, SingleString, LongSingleString, LongString, Dot, Comma, Semicolon, OpenSquare, CloseSquare, OpenRound, CloseRound, DoubleCaret, A, True, False, Prefix, Base}
use Rattle.turtle_grammar.proofs.Derivatives.{sound, complete, moved}
use Rattle.turtle_grammar.proofs.Live.{angle_opens, quote_opens, apostrophe_opens}
use Rattle.turtle_grammar.proofs.Sorts.{sort_of, IsSorted, sorted}
use Rattle.turtle_words.specs.Words.{begins_white}
use Rattle.turtle_words.proofs.Runs.{after_all, matches-append, is_fails, none_left, past, white_is}

-- ---- over all kinds

abbrev kinds : List TokenKind
kinds =
    Iri ∷ Namespace ∷ PrefixedName ∷ BlankLabel ∷ LanguageTag ∷ Integer ∷ Decimal ∷ Double ∷ String ∷ SingleString ∷ LongSingleString ∷ LongString ∷ Dot ∷ Comma ∷ Semicolon
    ∷ OpenSquare ∷ CloseSquare ∷ OpenRound ∷ CloseRound ∷ DoubleCaret ∷ A ∷ True ∷ False ∷ Prefix ∷ Base ∷ []

each_passes : (P : TokenKind → Bool) (ks : List TokenKind) → list_all P ks ≡ true → AllByRecursion (λ (kind : TokenKind). P kind ≡ true) ks
each_passes P [] h = tt
each_passes P (kind ∷ ks) h = let k = and_parts (P kind) (list_all P ks) h in (k.0, each_passes P ks k.1)

all_kinds : (P : TokenKind → Bool) → list_all P kinds ≡ true → (kind : TokenKind) → P kind ≡ true
all_kinds P h kind = by kind (each_passes P kinds h)
  where
    by : (kind : TokenKind) → AllByRecursion (λ (kind : TokenKind). P kind ≡ true) kinds → P kind ≡ true
    by Iri h = h.0
    by Namespace h = h.1.0
    by PrefixedName h = h.1.1.0
    by BlankLabel h = h.1.1.1.0
    by LanguageTag h = h.1.1.1.1.0
    by Integer h = h.1.1.1.1.1.0
    by Decimal h = h.1.1.1.1.1.1.0
    by Double h = h.1.1.1.1.1.1.1.0
    by String h = h.1.1.1.1.1.1.1.1.0
    by SingleString h = h.1.1.1.1.1.1.1.1.1.0
    by LongSingleString h = h.1.1.1.1.1.1.1.1.1.1.0
    by LongString h = h.1.1.1.1.1.1.1.1.1.1.1.0
    by Dot h = h.1.1.1.1.1.1.1.1.1.1.1.1.0
    by Comma h = h.1.1.1.1.1.1.1.1.1.1.1.1.1.0
    by Semicolon h = h.1.1.1.1.1.1.1.1.1.1.1.1.1.1.0
    by OpenSquare h = h.1.1.1.1.1.1.1.1.1.1.1.1.1.1.1.0
    by CloseSquare h = h.1.1.1.1.1.1.1.1.1.1.1.1.1.1.1.1.0
    by OpenRound h = h.1.1.1.1.1.1.1.1.1.1.1.1.1.1.1.1.1.0
    by CloseRound h = h.1.1.1.1.1.1.1.1.1.1.1.1.1.1.1.1.1.1.0
    by DoubleCaret h = h.1.1.1.1.1.1.1.1.1.1.1.1.1.1.1.1.1.1.1.0
    by A h = h.1.1.1.1.1.1.1.1.1.1.1.1.1.1.1.1.1.1.1.1.0
    by True h = h.1.1.1.1.1.1.1.1.1.1.1.1.1.1.1.1.1.1.1.1.1.0
    by False h = h.1.1.1.1.1.1.1.1.1.1.1.1.1.1.1.1.1.1.1.1.1.1.0
    by Prefix h = h.1.1.1.1.1.1.1.1.1.1.1.1.1.1.1.1.1.1.1.1.1.1.1.0
    by Base h = h.1.1.1.1.1.1.1.1.1.1.1.1.1.1.1.1.1.1.1.1.1.1.1.1.0

-- ---- nothing goes on over white space

-- no white space goes on a pattern
abbrev dies : Pattern → Bool
dies p = is_fails (after 32 p) && (is_fails (after 9 p) && (is_fails (after 13 p) && is_fails (after 10 p)))

-- and on no kind of token, after a text
unfoldable pub ends_all : List ℕ → Bool
ends_all t = list_all (λ (kind : TokenKind). dies (after_all t (pattern kind))) kinds

dead : (p : Pattern) → dies p ≡ true → (c : ℕ) → is_white c ≡ true → is_fails (after c p) ≡ true
dead p h c white =
    let a = and_parts (is_fails (after 32 p)) (is_fails (after 9 p) && (is_fails (after 13 p) && is_fails (after 10 p))) h in
    let b = and_parts (is_fails (after 9 p)) (is_fails (after 13 p) && is_fails (after 10 p)) a.1 in
    let d = and_parts (is_fails (after 13 p)) (is_fails (after 10 p)) b.1 in
    white_is (λ c. is_fails (after c p) ≡ true) a.0 b.0 d.0 d.1 c white

-- a text that is a token has one kind
same_kind : (t : List ℕ) (k kind : TokenKind) → opened t ≡ None → Matches (pattern k) t → Matches (pattern kind) t → k ≡ kind
same_kind t k kind none h g = sym (is_sort k (sorted k t h)) ∙ is_sort kind (sorted kind t g)
  where
    is_sort : (k : TokenKind) → IsSorted k t → sort_of t ≡ k
    is_sort k (inl e) = e
    is_sort k (inr (rest, inl e)) = absurd (angle_opens rest (subst (λ x. opened x ≡ None) e none))
    is_sort k (inr (rest, inr (inl e))) = absurd (quote_opens rest (subst (λ x. opened x ≡ None) e none))
    is_sort k (inr (rest, inr (inr e))) = absurd (apostrophe_opens rest (subst (λ x. opened x ≡ None) e none))

begins : (c : ℕ) (left rest : List ℕ) → rest ≡ c ∷ left → begins_white rest ≡ true → is_white c ≡ true
begins c left rest e h = sym (ap begins_white e) ∙ h

finds_plain : (kind : TokenKind) (t rest : List ℕ) → opened t ≡ None → matches (pattern kind) t ≡ true → ends_all t ≡ true → begins_white rest ≡ true
    → FindsPlain (t ++ rest) (token kind (length t))
unfolding ends_all
finds_plain kind t rest none is ends white = (
  omega (arith, length-append t rest),
  moved (pattern kind) t (take (length t) (t ++ rest)) (sym (take_at t rest (length t) refl)) (sound (pattern kind) t is),
  λ k m le h. elim (cases_lt m (length t)) [
    | inl less ↦ inl less
    | inr least ↦ elim (cases_lt (length t) m) [
      | inl longer ↦
          let r = past t rest m longer le in
          let yes : matches (pattern k) (t ++ r.next ∷ r.more) ≡ true = sym (ap (matches (pattern k)) r.front) ∙ complete (pattern k) (take m (t ++ rest)) h in
          let dying : dies (after_all t (pattern k)) ≡ true = all_kinds (λ (kind : TokenKind). dies (after_all t (pattern kind))) ends k in
          let no : matches (pattern k) (t ++ r.next ∷ r.more) ≡ false =
          matches-append t (r.next ∷ r.more) (pattern k) ∙ none_left (after r.next (after_all t (pattern k))) r.more (dead (after_all t (pattern k)) dying r.next (begins r.next r.left rest r.begins white)) in
          absurd (true≢false (sym yes ∙ no))
      | inr most ↦
          let same : m ≡ length t = omega arith in
          let own : take m (t ++ rest) ≡ t = ap (λ i. take i (t ++ rest)) same ∙ take_at t rest (length t) refl in
          inr (same, same_kind t k kind none (moved (pattern k) (take m (t ++ rest)) t own h) (sound (pattern kind) t is))
    ]
  ],
)

-- a text that nothing opens is found wherever white space follows
pub found_plain : (kind : TokenKind) (t rest : List ℕ) → opened t ≡ None → opened (t ++ rest) ≡ None → matches (pattern kind) t ≡ true → ends_all t ≡ true
    → begins_white rest ≡ true → Finds (t ++ rest) (token kind (length t))
found_plain kind t rest none still is ends white =
    subst (λ o. MatchOption o (FindsPlain (t ++ rest) (token kind (length t))) (λ kind'. FindsOpened kind' (t ++ rest) (token kind (length t)))) (sym still) (finds_plain kind t rest none is ends white)
