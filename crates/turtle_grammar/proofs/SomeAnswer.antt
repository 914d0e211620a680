-- Each place of a text has an answer, and each text falls into tokens up to an answer that is none.
use Rattle.std.proofs.Common.{◌≡◌, ◌⊎◌, inl, inr, ⊎_elim, ℕ, zero, suc, ◌+◌, ◌-◌, ◌<◌, ◌≤◌, Option, Some, None, MatchOption, List, [], ◌∷◌, length, take, drop, IsUtf8, refl, sym, ap, ◌∙◌, subst, arith}
use Rattle.std.proofs.lemmas.List.{take_all}
use Rattle.std.specs.List.{AllByRecursion}
use Rattle.std.specs.Str.{chars}
use Rattle.turtle_grammar.specs.Pattern.{Matches}
use Rattle.turtle_grammar.specs.Terminals.{pattern, gap}
use Rattle.turtle_grammar.specs.Tokens.{Begins, Found, opened, FindsOpened, FindsPlain, Finds, HasNone, IsLongest, bytes_of, Answer, IsAnswer, IsNext, Lexes, HasAnswers, HasReadings}
use Rattle.turtle_grammar.specs.Tokens.Found.{token, unclosed, bad}
use Rattle.turtle_grammar.specs.Tokens.Answer.{next, end, is_unclosed, is_bad}
use Rattle.turtle_grammar.specs.declared.token.TokenKind.{TokenKind}
use Rattle.turtle_grammar.specs.declared.token.TokenKind.TheVariants.{Iri, Namespace, PrefixedName, BlankLabel, LanguageTag, Integer, Decimal, Double, String, SingleString, LongSingleString, LongString, Dot, Comma, Semicolon, OpenSquare, CloseSquare, OpenRound, CloseRound, DoubleCaret, A, True, False, Prefix, Base}
use Rattle.turtle_grammar.specs.declared.token.Token.{Token}
use Rattle.turtle_grammar.proofs.Begun.{begins_told}
use Rattle.turtle_grammar.proofs.Derivatives.{from_empty}
use Rattle.turtle_grammar.proofs.Live.{CanBegin, opened_can, angle_opens, quote_opens, apostrophe_opens}
use Rattle.turtle_grammar.proofs.Longest.{Decided, IsGreatest, NoneUpTo, greatest, edge, match_told, longest_or_none}
use Rattle.turtle_grammar.proofs.Sorts.{sort_of, IsSorted, sorted}
use Rattle.turtle_grammar.proofs.Spans.{rising_spans}

-- ---- over all kinds

abbrev kinds : List TokenKind
kinds =
    Iri ∷ Namespace ∷ PrefixedName ∷ BlankLabel ∷ LanguageTag ∷ Integer ∷ Decimal ∷ Double ∷ String ∷ SingleString ∷ LongSingleString ∷ LongString ∷ Dot ∷ Comma ∷ Semicolon
    ∷ OpenSquare ∷ CloseSquare ∷ OpenRound ∷ CloseRound ∷ DoubleCaret ∷ A ∷ True ∷ False ∷ Prefix ∷ Base ∷ []

each_kind : (P : TokenKind → Type 0) → AllByRecursion P kinds → (kind : TokenKind) → P kind
each_kind P h Iri = h.0
each_kind P h Namespace = h.1.0
each_kind P h PrefixedName = h.1.1.0
each_kind P h BlankLabel = h.1.1.1.0
each_kind P h LanguageTag = h.1.1.1.1.0
each_kind P h Integer = h.1.1.1.1.1.0
each_kind P h Decimal = h.1.1.1.1.1.1.0
each_kind P h Double = h.1.1.1.1.1.1.1.0
each_kind P h String = h.1.1.1.1.1.1.1.1.0
each_kind P h SingleString = h.1.1.1.1.1.1.1.1.1.0
each_kind P h LongSingleString = h.1.1.1.1.1.1.1.1.1.1.0
each_kind P h LongString = h.1.1.1.1.1.1.1.1.1.1.1.0
each_kind P h Dot = h.1.1.1.1.1.1.1.1.1.1.1.1.0
each_kind P h Comma = h.1.1.1.1.1.1.1.1.1.1.1.1.1.0
each_kind P h Semicolon = h.1.1.1.1.1.1.1.1.1.1.1.1.1.1.0
each_kind P h OpenSquare = h.1.1.1.1.1.1.1.1.1.1.1.1.1.1.1.0
each_kind P h CloseSquare = h.1.1.1.1.1.1.1.1.1.1.1.1.1.1.1.1.0
each_kind P h OpenRound = h.1.1.1.1.1.1.1.1.1.1.1.1.1.1.1.1.1.0
each_kind P h CloseRound = h.1.1.1.1.1.1.1.1.1.1.1.1.1.1.1.1.1.1.0
each_kind P h DoubleCaret = h.1.1.1.1.1.1.1.1.1.1.1.1.1.1.1.1.1.1.1.0
each_kind P h A = h.1.1.1.1.1.1.1.1.1.1.1.1.1.1.1.1.1.1.1.1.0
each_kind P h True = h.1.1.1.1.1.1.1.1.1.1.1.1.1.1.1.1.1.1.1.1.1.0
each_kind P h False = h.1.1.1.1.1.1.1.1.1.1.1.1.1.1.1.1.1.1.1.1.1.1.0
each_kind P h Prefix = h.1.1.1.1.1.1.1.1.1.1.1.1.1.1.1.1.1.1.1.1.1.1.1.0
each_kind P h Base = h.1.1.1.1.1.1.1.1.1.1.1.1.1.1.1.1.1.1.1.1.1.1.1.1.0

-- a text is a token of some kind
abbrev IsToken : List ℕ → Type 0
IsToken t = (kind : TokenKind) × Matches (pattern kind) t

token_among : (t : List ℕ) (ks : List TokenKind) → IsToken t ⊎ AllByRecursion (λ (kind : TokenKind). Matches (pattern kind) t → ⊥) ks
token_among t [] = inr tt
token_among t (kind ∷ ks) = by (match_told (pattern kind) t) (token_among t ks)
  where
    by : Decided (Matches (pattern kind) t) → IsToken t ⊎ AllByRecursion (λ (k : TokenKind). Matches (pattern k) t → ⊥) ks → IsToken t ⊎ AllByRecursion (λ (k : TokenKind). Matches (pattern k) t → ⊥) (kind ∷ ks)
    by (inl h) rest = inl (kind, h)
    by (inr never) (inl h) = inl h
    by (inr never) (inr none) = inr (never, none)

token_told : (t : List ℕ) → Decided (IsToken t)
token_told t = by (token_among t kinds)
  where
    by : IsToken t ⊎ AllByRecursion (λ (kind : TokenKind). Matches (pattern kind) t → ⊥) kinds → Decided (IsToken t)
    by (inl h) = inl h
    by (inr none) = inr (λ h. each_kind (λ (kind : TokenKind). Matches (pattern kind) t → ⊥) none h.0 h.1)

-- ---- where nothing is opened

-- a front that is a token is of its sort
sort_is : (text : List ℕ) (n : ℕ) (kind : TokenKind) → opened text ≡ None → Matches (pattern kind) (take n text) → sort_of (take n text) ≡ kind
sort_is text n kind none h = by text n none (sorted kind (take n text) h)
  where
    opens : (text : List ℕ) (c : ℕ) (rest : List ℕ) (n : ℕ) → take n text ≡ c ∷ rest → (more : List ℕ) × (text ≡ c ∷ more)
    opens [] c rest zero e = cc
    opens [] c rest (suc n) e = cc
    opens (d ∷ text) c rest zero e = cc
    opens (d ∷ text) c rest (suc n) e = let same : d ≡ c = cc in (text, ap (λ x. x ∷ text) same)

    by : (text : List ℕ) (n : ℕ) → opened text ≡ None → IsSorted kind (take n text) → sort_of (take n text) ≡ kind
    by text n none (inl e) = e
    by text n none (inr (rest, inl e)) = let r = opens text 60 rest n e in absurd (angle_opens r.0 (subst (λ x. opened x ≡ None) r.1 none))
    by text n none (inr (rest, inr (inl e))) = let r = opens text 34 rest n e in absurd (quote_opens r.0 (subst (λ x. opened x ≡ None) r.1 none))
    by text n none (inr (rest, inr (inr e))) = let r = opens text 39 rest n e in absurd (apostrophe_opens r.0 (subst (λ x. opened x ≡ None) r.1 none))

less_or_same : (m n : ℕ) → m ≤ n → (m < n) ⊎ (m ≡ n)
less_or_same m n le = grind arith

some_plain : (text : List ℕ) → opened text ≡ None → (f : Found) × FindsPlain text f
some_plain text none = by (greatest (λ n. IsToken (take n text)) (λ n. token_told (take n text)) (length text))
  where
    by : ((n : ℕ) × IsGreatest (λ n. IsToken (take n text)) (length text) n) ⊎ NoneUpTo (λ n. IsToken (take n text)) (length text) → (f : Found) × FindsPlain text f
    by (inl (n, h)) = (
      token h.1.0 n,
      (
        h.0,
        h.1.1,
        λ k m within matched.
            ⊎_elim (λ less. inl less)
            (λ same. inr (same, sym (sort_is text m k none matched) ∙ ap (λ i. sort_of (take i text)) same ∙ sort_is text n h.1.0 none h.1.1))
            (less_or_same m n (h.2 m within (k, matched))),
      ),
    )
    by (inr never) = (bad zero, (refl, λ k m within matched. never m within (k, matched)))

-- ---- where a quote or `<` opens

some_opened : (kind : TokenKind) (text : List ℕ) → CanBegin kind → (f : Found) × FindsOpened kind text f
some_opened kind text can = by (longest_or_none (pattern kind) text)
  where
    begun : HasNone (pattern kind) text → Decided (Begins (pattern kind) text) → (f : Found) × FindsOpened kind text f
    begun none (inl h) = (unclosed, (none, h))
    begun none (inr never) =
        let P : ℕ → Type 0 = λ i. Begins (pattern kind) (take i text) in
        let whole : take (length text) text ≡ text = take_all (length text) text (omega arith) in
        let r = edge P (λ i. begins_told (pattern kind) (take i text) can.0) (length text) can.1 (λ h. never (subst (Begins (pattern kind)) whole h)) in
        (bad r.0, (none, r.1, r.2, r.3))

    by : ((n : ℕ) × IsLongest (pattern kind) text n) ⊎ HasNone (pattern kind) text → (f : Found) × FindsOpened kind text f
    by (inl (n, h)) = (token kind n, (refl, h))
    by (inr none) = begun none (begins_told (pattern kind) text can.0)

some_found : (text : List ℕ) → (f : Found) × Finds text f
some_found text = by (opened text) refl
  where
    by : (o : Option TokenKind) → opened text ≡ o → (f : Found) × MatchOption o (FindsPlain text f) (λ kind. FindsOpened kind text f)
    by None e = some_plain text e
    by (Some kind) e = some_opened kind text (opened_can text kind e)

-- ---- answers

-- a character that can't stand there is one of the text
bad_inside : (text : List ℕ) (i : ℕ) → 0 < length text → Finds text (bad i) → i < length text
bad_inside text i some h = by (opened text) h
  where
    by : (o : Option TokenKind) → MatchOption o (FindsPlain text (bad i)) (λ kind. FindsOpened kind text (bad i)) → i < length text
    by None h = omega (arith, h.0, some)
    by (Some kind) h = h.1

some_answer_here : (text : List ℕ) (at : ℕ) → (a : Answer) × IsAnswer text at a
some_answer_here [] at = (end, refl)
some_answer_here (c ∷ rest) at = by (some_found (c ∷ rest)).0 (some_found (c ∷ rest)).1
  where
    by : (f : Found) → Finds (c ∷ rest) f → (a : Answer) × IsAnswer (c ∷ rest) at a
    by (token kind n) h = (next (record { kind = kind; at = at; upto = at + bytes_of (take n (c ∷ rest)) }), (n, h, refl, refl))
    by unclosed h = (is_unclosed at, (h, refl))
    by (bad i) h = (is_bad (at + bytes_of (take i (c ∷ rest))), (i, h, bad_inside (c ∷ rest) i (omega arith) h, refl))

empty_gap : Matches gap []
unfolding gap
empty_gap = from_empty gap refl

pub some_answer : HasAnswers
some_answer text at = by (longest_or_none gap text)
  where
    by : ((n : ℕ) × IsLongest gap text n) ⊎ HasNone gap text → (a : Answer) × IsNext text at a
    by (inl (n, h)) = let r = some_answer_here (drop n text) (at + bytes_of (take n text)) in (r.0, (n, h, r.1))
    by (inr never) = absurd (never zero (omega arith) empty_gap)

-- ---- readings

reading_by : (fuel : ℕ) (bytes : List ℕ) (at : ℕ) → length bytes - at < fuel → at ≤ length bytes → IsUtf8 (drop at bytes) → (tokens : List Token) × (last : Answer) × Lexes bytes at tokens last
reading_by zero bytes at more within utf8 = absurd (omega arith)
reading_by (suc fuel) bytes at more within utf8 = by (some_answer (chars (drop at bytes)) at).0 (some_answer (chars (drop at bytes)) at).1 (λ next_at. reading_by fuel bytes next_at)
  where
    by : (a : Answer) → IsNext (chars (drop at bytes)) at a → ((i : ℕ) → length bytes - i < fuel → i ≤ length bytes → IsUtf8 (drop i bytes) → (tokens : List Token) × (last : Answer) × Lexes bytes i tokens last)
        → (tokens : List Token) × (last : Answer) × Lexes bytes at tokens last
    by (next t) h rest =
        let l = rising_spans bytes at t within utf8 h in
        let r = rest t.upto (omega (arith, l.from, l.some, l.within, more)) l.within l.ends in
        (t ∷ r.0, r.1, (h, r.2))
    by end h rest = ([], end, (h, tt))
    by (is_unclosed place) h rest = ([], is_unclosed place, (h, tt))
    by (is_bad place) h rest = ([], is_bad place, (h, tt))

pub some_reading : HasReadings
some_reading bytes at within utf8 = reading_by (suc (length bytes)) bytes at (omega arith) within utf8
