-- IRIs and strings without escapes, each to its closing bracket or quote.
use Rattle.std.proofs.Common.{◌≡◌, ℕ, Bool, true, false, not, cond, ◌&&◌, ◌==◌, nat_eq, Some, MatchOption, List, [], ◌∷◌, ◌++◌, length, take, refl, sym, ap, ◌∙◌, subst, true≢false}
use Rattle.std.proofs.lemmas.Bool.{eqb-true, or_parts}
use Rattle.std.specs.Cmp.Lexicographic.{pointwise}
use Rattle.std.specs.List.{list_any}
use Rattle.turtle_grammar.specs.Characters.{is_white, is_excluded, is_escape}
use Rattle.turtle_grammar.specs.Pattern.{Pattern, fails, nothing, one, ◌then◌, ◌or◌, many, is_empty, in_row, either, after, char}
use Rattle.turtle_grammar.specs.Terminals.{pattern, iriref, short_string, uchar, echar, short_code, long_code}
use Rattle.turtle_grammar.specs.Tokens.{opened, FindsOpened, FindsPlain, Finds}
use Rattle.turtle_grammar.specs.Tokens.Found.{token}
use Rattle.turtle_grammar.specs.declared.token.TokenKind.TheVariants.{Iri, String, LongString}
use Rattle.turtle_words.specs.Words.{begins_white, ends_string}
use Rattle.turtle_words.proofs.Runs.{after_all, is_fails, longest}

-- a character of a class isn't one that lies outside it
other : (class : ℕ → Bool) (c k : ℕ) → class c ≡ false → class k ≡ true → (c == k) ≡ false
other class c k out within = by (c == k) refl
  where
    by : (b : Bool) → (c == k) ≡ b → (c == k) ≡ false
    by false e = e
    by true e = absurd (true≢false (sym within ∙ sym (ap class (eqb-true c k e)) ∙ out))

another : (class : ℕ → Bool) (c k : ℕ) → class c ≡ false → class k ≡ true → (k == c) ≡ false
another class c k out within = by (k == c) refl
  where
    by : (b : Bool) → (k == c) ≡ b → (k == c) ≡ false
    by false e = e
    by true e = absurd (true≢false (sym within ∙ ap class (eqb-true k c e) ∙ out))

-- ---- IRIs

abbrev iri_item : Pattern
iri_item = one (λ c. not (is_excluded c)) or uchar

-- the rest of an IRI
abbrev iri_rest : Pattern
iri_rest = many iri_item then char 62

iri_opens : after 60 iriref ≡ iri_rest
unfolding iriref
iri_opens = refl

iri_closes : after 62 iri_rest ≡ nothing
unfolding is_excluded
iri_closes = refl

-- what a choice of a class and of a code leaves
iri_goes_on : (c : ℕ) → is_excluded c ≡ false → after c iri_rest ≡ iri_rest
unfolding is_excluded
iri_goes_on c h = by (is_excluded c) (c == 92) (c == 62) h (other is_excluded c 92 h refl) (other is_excluded c 62 h refl)
  where
    by : (x b d : Bool) → x ≡ false → b ≡ false → d ≡ false
        → either (in_row (in_row (either (cond (not x) nothing fails) (either (in_row (cond b nothing fails) ((char 117 then short_code) or (char 85 then long_code))) fails)) (many iri_item)) (char 62)) (cond d nothing fails) ≡ iri_rest
    by true b d p q r = cc
    by false true d p q r = cc
    by false false true p q r = cc
    by false false false p q r = refl

iri_body : (body : List ℕ) → list_any is_excluded body ≡ false → after_all (body ++ 62 ∷ []) iri_rest ≡ nothing
iri_body [] h = iri_closes
iri_body (c ∷ body) h =
    let k = or_parts (is_excluded c) (list_any is_excluded body) h in
    ap (after_all (body ++ 62 ∷ [])) (iri_goes_on c k.0) ∙ iri_body body k.1

ended : (p : Pattern) → p ≡ nothing → (is_empty p ≡ true) × ((c : ℕ) → is_fails (after c p) ≡ true)
ended p e = (ap is_empty e, λ c. ap (λ q. is_fails (after c q)) e)

-- an IRI without a code, whatever follows
pub found_iri : (body rest : List ℕ) → list_any is_excluded body ≡ false → Finds ((60 ∷ (body ++ 62 ∷ [])) ++ rest) (token Iri (length (60 ∷ (body ++ 62 ∷ []))))
unfolding pattern
found_iri body rest h =
    let left : after_all (60 ∷ (body ++ 62 ∷ [])) iriref ≡ nothing = ap (after_all (body ++ 62 ∷ [])) iri_opens ∙ iri_body body h in
    let e = ended (after_all (60 ∷ (body ++ 62 ∷ [])) iriref) left in
    (refl, longest iriref (60 ∷ (body ++ 62 ∷ [])) rest e.0 (λ c more begins. e.1 c))

-- ---- strings

abbrev string_item : Pattern
string_item = one (λ c. not (ends_string c)) or (echar or uchar)

abbrev string_rest : Pattern
string_rest = many string_item then char 34

string_opens : after 34 (short_string 34) ≡ string_rest
unfolding short_string
string_opens = refl

string_closes : after 34 string_rest ≡ nothing
string_closes = refl

string_goes_on : (c : ℕ) → ends_string c ≡ false → after c string_rest ≡ string_rest
string_goes_on c h = by (ends_string c) (c == 92) (c == 34) h (other ends_string c 92 h refl) (other ends_string c 34 h refl)
  where
    by : (x b d : Bool) → x ≡ false → b ≡ false → d ≡ false
        → either
        (in_row
        (in_row
        (either (cond (not x) nothing fails)
        (either (either (in_row (cond b nothing fails) (one is_escape)) fails) (either (in_row (cond b nothing fails) ((char 117 then short_code) or (char 85 then long_code))) fails)))
        (many string_item))
        (char 34))
        (cond d nothing fails) ≡ string_rest
    by true b d p q r = cc
    by false true d p q r = cc
    by false false true p q r = cc
    by false false false p q r = refl

string_body : (body : List ℕ) → list_any ends_string body ≡ false → after_all (body ++ 34 ∷ []) string_rest ≡ nothing
string_body [] h = string_closes
string_body (c ∷ body) h =
    let k = or_parts (ends_string c) (list_any ends_string body) h in
    ap (after_all (body ++ 34 ∷ [])) (string_goes_on c k.0) ∙ string_body body k.1

-- a quote, or two, and another character open a short string
one_quote : (c : ℕ) (more : List ℕ) → (34 == c) ≡ false → opened (34 ∷ c ∷ more) ≡ Some String
one_quote c more h = by (34 == c) h
  where
    by : (b : Bool) → b ≡ false → cond (b && pointwise nat_eq (34 ∷ []) (take 1 more)) (Some LongString) (Some String) ≡ Some String
    by true e = cc
    by false e = refl

two_quotes : (c : ℕ) (more : List ℕ) → (34 == c) ≡ false → opened (34 ∷ 34 ∷ c ∷ more) ≡ Some String
two_quotes c more h = by (34 == c) h
  where
    by : (b : Bool) → b ≡ false → cond (b && true) (Some LongString) (Some String) ≡ Some String
    by true e = cc
    by false e = refl

opens_string : (body rest : List ℕ) → list_any ends_string body ≡ false → begins_white rest ≡ true → opened ((34 ∷ (body ++ 34 ∷ [])) ++ rest) ≡ Some String
unfolding is_white
opens_string [] [] h white = cc
opens_string [] (c ∷ rest) h white = two_quotes c rest (another (λ c. not (is_white c)) c 34 (ap not white) refl)
opens_string (c ∷ body) rest h white = one_quote c ((body ++ 34 ∷ []) ++ rest) (another ends_string c 34 (or_parts (ends_string c) (list_any ends_string body) h).0 refl)

-- a string without an escape, before white space
pub found_string : (body rest : List ℕ) → list_any ends_string body ≡ false → begins_white rest ≡ true
    → Finds ((34 ∷ (body ++ 34 ∷ [])) ++ rest) (token String (length (34 ∷ (body ++ 34 ∷ []))))
unfolding pattern
found_string body rest h white =
    let left : after_all (34 ∷ (body ++ 34 ∷ [])) (short_string 34) ≡ nothing = ap (after_all (body ++ 34 ∷ [])) string_opens ∙ string_body body h in
    let e = ended (after_all (34 ∷ (body ++ 34 ∷ [])) (short_string 34)) left in
    subst (λ o. MatchOption o (FindsPlain ((34 ∷ (body ++ 34 ∷ [])) ++ rest) (token String (length (34 ∷ (body ++ 34 ∷ []))))) (λ kind. FindsOpened kind ((34 ∷ (body ++ 34 ∷ [])) ++ rest) (token String (length (34 ∷ (body ++ 34 ∷ []))))))
    (sym (opens_string body rest h white))
    (refl, longest (short_string 34) (34 ∷ (body ++ 34 ∷ [])) rest e.0 (λ c more begins. e.1 c))
