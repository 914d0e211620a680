-- No text has two answers.
use Rattle.std.proofs.Common.{◌≡◌, ◌⊎◌, ⊎_elim, ℕ, zero, suc, ◌<◌, ◌+◌, false, Option, Some, None, MatchOption, List, [], ◌∷◌, ◌++◌, length, take, drop, refl, sym, ap, ◌∙◌, subst, append_assoc, arith}
use Rattle.std.proofs.lemmas.List.{take-append-drop, take-take}
use Rattle.std.specs.Str.{chars}
use Rattle.turtle_grammar.specs.Pattern.{Pattern, Matches, matches}
use Rattle.turtle_grammar.specs.Terminals.{pattern, iriref, short_string, long_string, integer, decimal, double, pname_ns, pname_ln, blank_label, langtag}
use Rattle.turtle_grammar.specs.Tokens.{Begins, Found, opened, FindsOpened, FindsPlain, Finds, bytes_of, Answer, IsAnswer, IsLast, Lexes, HasOneAnswer, HasOneReading}
use Rattle.turtle_grammar.specs.Tokens.Found.{token, unclosed, bad}
use Rattle.turtle_grammar.specs.Tokens.Answer.{next, end, is_unclosed, is_bad}
use Rattle.turtle_grammar.specs.declared.token.TokenKind.{TokenKind}
use Rattle.turtle_grammar.specs.declared.token.TokenKind.TheVariants.{Iri, Namespace, PrefixedName, BlankLabel, LanguageTag, Integer, Decimal, Double, String, SingleString, LongSingleString, LongString, Dot, Comma, Semicolon, OpenSquare, CloseSquare, OpenRound, CloseRound, DoubleCaret, A, True, False, Prefix, Base}
use Rattle.turtle_grammar.specs.declared.token.Token.{Token}
use Rattle.turtle_grammar.proofs.Derivatives.{complete}

-- a front of what begins a token begins it
begins_front : (p : Pattern) (text : List ℕ) (n : ℕ) → Begins p text → Begins p (take n text)
begins_front p text n h =
    let e : text ++ h.0 ≡ take n text ++ (drop n text ++ h.0) = ap (λ x. x ++ h.0) (sym (take-append-drop n text)) ∙ append_assoc (take n text) (drop n text) h.0 in
    let P : List ℕ → Type 0 = λ x. Matches p x in
    (drop n text ++ h.0, subst P e h.1)

not_before : (p : Pattern) (text : List ℕ) (i j : ℕ) → (Begins p (take (suc i) text) → ⊥) → Begins p (take j text) → i < j → ⊥
not_before p text i j no_more more lt =
    let P : List ℕ → Type 0 = λ x. Begins p x in
    no_more (subst P (take-take (suc i) j text lt) (begins_front p (take j text) (suc i) more))

order : (i j : ℕ) → (i < j) ⊎ ((j < i) ⊎ (i ≡ j))
order i j = grind arith

one_opened : (kind : TokenKind) (text : List ℕ) (f g : Found) → FindsOpened kind text f → FindsOpened kind text g → f ≡ g
one_opened kind text (token k n) (token l m) x y =
    let e : n ≡ m = omega (arith, x.1.2 m y.1.0 y.1.1, y.1.2 n x.1.0 x.1.1) in
    let k_is = x.0 in let l_is = y.0 in cc
one_opened kind text (token k n) unclosed x y = absurd (y.0 n x.1.0 x.1.1)
one_opened kind text (token k n) (bad j) x y = absurd (y.0 n x.1.0 x.1.1)
one_opened kind text unclosed (token l m) x y = absurd (x.0 m y.1.0 y.1.1)
one_opened kind text unclosed unclosed x y = refl
one_opened kind text unclosed (bad j) x y = absurd (y.3 (begins_front (pattern kind) text (suc j) x.1))
one_opened kind text (bad i) (token l m) x y = absurd (x.0 m y.1.0 y.1.1)
one_opened kind text (bad i) unclosed x y = absurd (x.3 (begins_front (pattern kind) text (suc i) y.1))
one_opened kind text (bad i) (bad j) x y =
    ⊎_elim
    (λ lt. absurd (not_before (pattern kind) text i j x.3 y.2 lt))
    (λ r. ⊎_elim (λ lt. absurd (not_before (pattern kind) text j i y.3 x.2 lt)) (λ e. ap bad e) r)
    (order i j)

one_plain : (text : List ℕ) (f g : Found) → FindsPlain text f → FindsPlain text g → f ≡ g
one_plain text (token k n) (token l m) x y =
    ⊎_elim
    (λ lt. ⊎_elim (λ gt. absurd (omega arith)) (λ e. absurd (omega (arith, e.0))) (y.2 k n x.0 x.1))
    (λ e. let ns = e.0 in let ks = e.1 in cc)
    (x.2 l m y.0 y.1)
one_plain text (token k n) unclosed x y = absurd y
one_plain text (token k n) (bad j) x y = absurd (y.1 k n x.0 x.1)
one_plain text unclosed g x y = absurd x
one_plain text (bad i) (token l m) x y = absurd (x.1 l m y.0 y.1)
one_plain text (bad i) unclosed x y = absurd y
one_plain text (bad i) (bad j) x y = let a = x.0 in let b = y.0 in cc

one_by : (by : Option TokenKind) (text : List ℕ) (f g : Found)
    → MatchOption by (FindsPlain text f) (λ kind. FindsOpened kind text f) → MatchOption by (FindsPlain text g) (λ kind. FindsOpened kind text g) → f ≡ g
one_by None text f g x y = one_plain text f g x y
one_by (Some kind) text f g x y = one_opened kind text f g x y

-- a text begins with one thing
pub one_found : (text : List ℕ) (f g : Found) → Finds text f → Finds text g → f ≡ g
one_found text f g x y = one_by (opened text) text f g x y

-- no token is empty
pub no_empty_token : (kind : TokenKind) → matches (pattern kind) [] ≡ false
unfolding pattern iriref short_string long_string integer decimal double pname_ns pname_ln blank_label langtag
no_empty_token Iri = refl
no_empty_token Namespace = refl
no_empty_token PrefixedName = refl
no_empty_token BlankLabel = refl
no_empty_token LanguageTag = refl
no_empty_token Integer = refl
no_empty_token Decimal = refl
no_empty_token Double = refl
no_empty_token String = refl
no_empty_token SingleString = refl
no_empty_token LongSingleString = refl
no_empty_token LongString = refl
no_empty_token Dot = refl
no_empty_token Comma = refl
no_empty_token Semicolon = refl
no_empty_token OpenSquare = refl
no_empty_token CloseSquare = refl
no_empty_token OpenRound = refl
no_empty_token CloseRound = refl
no_empty_token DoubleCaret = refl
no_empty_token A = refl
no_empty_token True = refl
no_empty_token False = refl
no_empty_token Prefix = refl
no_empty_token Base = refl

-- nothing is found in no text but its end
none_at_end : (n : ℕ) (kind : TokenKind) → Finds [] (token kind n) → ⊥
none_at_end zero kind h = let yes = complete (pattern kind) [] h.1 in let no = no_empty_token kind in cc
none_at_end (suc n) kind h = absurd (omega (arith, h.0))

at_end : (text : List ℕ) (f : Found) → text ≡ [] → Finds text f → Finds [] f
at_end text f e h = let P : List ℕ → Type 0 = λ x. Finds x f in subst P e h

abbrev token_of : TokenKind → ℕ → ℕ → Token
token_of kind at upto = record { kind = kind; at = at; upto = upto }

one_answer_here : (text : List ℕ) (at : ℕ) (a b : Answer) → IsAnswer text at a → IsAnswer text at b → a ≡ b
one_answer_here text at (next s) (next t) x y =
    let same = one_found text (token s.kind x.0) (token t.kind y.0) x.1 y.1 in
    let n : x.0 ≡ y.0 = cc in
    let kinds : s.kind ≡ t.kind = cc in
    let places : s.at ≡ t.at = x.2 ∙ sym y.2 in
    let ends : s.upto ≡ t.upto = x.3 ∙ ap (λ m. at + bytes_of (take m text)) n ∙ sym y.3 in
    ap (λ k. next (token_of k s.at s.upto)) kinds ∙ (ap (λ a. next (token_of t.kind a s.upto)) places ∙ ap (λ u. next (token_of t.kind t.at u)) ends)
one_answer_here text at (next s) end x y = absurd (none_at_end x.0 s.kind (at_end text (token s.kind x.0) y x.1))
one_answer_here text at (next s) (is_unclosed p) x y = let e = one_found text (token s.kind x.0) unclosed x.1 y.0 in cc
one_answer_here text at (next s) (is_bad p) x y = let e = one_found text (token s.kind x.0) (bad y.0) x.1 y.1 in cc
one_answer_here text at end (next t) x y = absurd (none_at_end y.0 t.kind (at_end text (token t.kind y.0) x y.1))
one_answer_here text at end end x y = refl
one_answer_here text at end (is_unclosed p) x y = absurd (at_end text unclosed x y.0)
one_answer_here text at end (is_bad p) x y = absurd (omega (arith, y.2, ap length x))
one_answer_here text at (is_unclosed p) (next t) x y = let e = one_found text (token t.kind y.0) unclosed y.1 x.0 in cc
one_answer_here text at (is_unclosed p) end x y = absurd (at_end text unclosed y x.0)
one_answer_here text at (is_unclosed p) (is_unclosed q) x y = ap is_unclosed (x.1 ∙ sym y.1)
one_answer_here text at (is_unclosed p) (is_bad q) x y = let e = one_found text unclosed (bad y.0) x.0 y.1 in cc
one_answer_here text at (is_bad p) (next t) x y = let e = one_found text (token t.kind y.0) (bad x.0) y.1 x.1 in cc
one_answer_here text at (is_bad p) end x y = absurd (omega (arith, x.2, ap length y))
one_answer_here text at (is_bad p) (is_unclosed q) x y = let e = one_found text unclosed (bad x.0) y.0 x.1 in cc
one_answer_here text at (is_bad p) (is_bad q) x y =
    let e = one_found text (bad x.0) (bad y.0) x.1 y.1 in
    let i : x.0 ≡ y.0 = cc in
    ap is_bad (x.3 ∙ ap (λ m. at + bytes_of (take m text)) i ∙ sym y.3)

pub one_answer : HasOneAnswer
one_answer text at a b x y =
    let n : y.0 ≡ x.0 = omega (arith, x.1.2 y.0 y.1.0 y.1.1, y.1.2 x.0 x.1.0 x.1.1) in
    let P : ℕ → Type 0 = λ m. IsAnswer (drop m text) (at + bytes_of (take m text)) b in
    one_answer_here (drop x.0 text) (at + bytes_of (take x.0 text)) a b x.2 (subst P n y.2)

pub one_reading : HasOneReading
one_reading bytes at [] [] a b x y = (refl, one_answer (chars (drop at bytes)) at a b x.0 y.0)
one_reading bytes at [] (t ∷ ts) a b x y =
    let e = one_answer (chars (drop at bytes)) at a (next t) x.0 y.0 in
    let P : Answer → Type 0 = IsLast in absurd (subst P e x.1)
one_reading bytes at (s ∷ ss) [] a b x y =
    let e = one_answer (chars (drop at bytes)) at b (next s) y.0 x.0 in
    let P : Answer → Type 0 = IsLast in absurd (subst P e y.1)
one_reading bytes at (s ∷ ss) (t ∷ ts) a b x y =
    let e = one_answer (chars (drop at bytes)) at (next s) (next t) x.0 y.0 in
    let same : t ≡ s = cc in
    let P : Token → Type 0 = λ u. Lexes bytes u.upto ts b in
    let rest = one_reading bytes s.upto ss ts a b x.1 (subst P same y.1) in
    let r : ss ≡ ts = rest.0 in (cc, rest.1)
