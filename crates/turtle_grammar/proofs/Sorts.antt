-- No text is of two kinds of token, but for those that a quote or `<` opens: its kind is told from its characters.
use Rattle.std.proofs.Common.{◌≡◌, ◌⊎◌, inl, inr, ℕ, Bool, true, false, ◌&&◌, ◌||◌, ◌==◌, cond, List, [], ◌∷◌, ◌++◌, map, codes, refl, sym, ap, ◌∙◌, subst, eqb-true, true≢false, append_assoc, append-nil, arith}
use Rattle.std.specs.Char.{to_ascii_lowercase}
use Rattle.std.specs.List.{list_any}
use Rattle.turtle_grammar.specs.Characters.{among, is_digit, is_letter, is_letter_or_digit, is_sign, is_exponent, is_name_base, is_name_start, is_name_char}
use Rattle.turtle_grammar.specs.Pattern.{Pattern, Matches, is_empty, ◌then◌, maybe, char, word}
use Rattle.turtle_grammar.specs.Terminals.{pattern, integer, decimal, double, pname_ns, pname_ln, blank_label, langtag, pn_prefix, pn_local, word_in_any_case, iriref, short_string, long_string}
use Rattle.turtle_grammar.specs.declared.token.TokenKind.{TokenKind}
use Rattle.turtle_grammar.specs.declared.token.TokenKind.TheVariants.{Iri, Namespace, PrefixedName, BlankLabel, LanguageTag, Integer, Decimal, Double, String, SingleString, LongSingleString, LongString, Dot, Comma, Semicolon, OpenSquare, CloseSquare, OpenRound, CloseRound, DoubleCaret, A, True, False, Prefix, Base}
use Rattle.turtle_grammar.proofs.Derivatives.{to_empty}
use Rattle.turtle_grammar.proofs.Features.{starts, starts_is, lacks, lacks_is, Has, has_is}

abbrev colon : List ℕ
colon = 58 ∷ []

abbrev at_sign : List ℕ
at_sign = 64 ∷ []

abbrev dot : List ℕ
dot = 46 ∷ []

abbrev same : List ℕ → List ℕ → Bool
same [] [] = true
same (c ∷ t) (d ∷ u) = (c == d) && same t u
same _ _ = false

-- what stands after the first colon
abbrev rest_after : List ℕ → List ℕ
rest_after [] = []
rest_after (c ∷ t) = cond (c == 58) t (rest_after t)

abbrev local_sort : List ℕ → TokenKind
local_sort [] = Namespace
local_sort (c ∷ t) = PrefixedName

abbrev name_sort : List ℕ → TokenKind
name_sort [] = BlankLabel
name_sort (c ∷ t) = cond (c == 95) BlankLabel (local_sort (rest_after (c ∷ t)))

abbrev number_sort : List ℕ → TokenKind
number_sort t = cond (list_any is_exponent t) Double (cond (list_any (among dot) t) Decimal Integer)

abbrev mark_sort : List ℕ → TokenKind
mark_sort t =
    cond (same t (codes ".")) Dot (cond (same t (codes ",")) Comma (cond (same t (codes ";")) Semicolon (cond (same t (codes "[")) OpenSquare (cond (same t (codes "]")) CloseSquare
    (cond (same t (codes "(")) OpenRound (cond (same t (codes ")")) CloseRound DoubleCaret))))))

abbrev word_sort : List ℕ → TokenKind
word_sort t =
    cond (same t (codes "a")) A (cond (same t (codes "true")) True (cond (same t (codes "false")) False (cond (same t (codes "prefix")) Prefix (cond (same t (codes "base")) Base (mark_sort t)))))

-- the kind of a text that is a token
unfoldable pub sort_of : List ℕ → TokenKind
sort_of t =
    cond (list_any (among colon) t) (name_sort t)
    (cond (list_any (among at_sign) t) LanguageTag (cond (list_any is_digit t) (number_sort t) (word_sort (map to_ascii_lowercase t))))

picked : (b : Bool) (x y : TokenKind) → b ≡ true → cond b x y ≡ x
picked true x y e = refl
picked false x y e = cc

passed : (b : Bool) (x y : TokenKind) → b ≡ false → cond b x y ≡ y
passed true x y e = cc
passed false x y e = refl

-- ---- words and marks

exact : (w t : List ℕ) → Matches (word w) t → t ≡ w
exact [] t h = h
exact (c ∷ w) t h =
    let front = h.2 in
    let first : front.0 ≡ c = eqb-true front.0 c front.1 in
    h.4 ∙ ap (λ x. x ++ h.1) front.2 ∙ ap (λ x. front.0 ∷ x) (exact w h.1 h.3) ∙ ap (λ x. x ∷ w) first

in_any_case : (w t : List ℕ) → Matches (word_in_any_case w) t → map to_ascii_lowercase t ≡ w
in_any_case [] t h = ap (map to_ascii_lowercase) h
in_any_case (c ∷ w) t h =
    let front = h.2 in
    let first : to_ascii_lowercase front.0 ≡ c = eqb-true (to_ascii_lowercase front.0) c front.1 in
    ap (map to_ascii_lowercase) (h.4 ∙ ap (λ x. x ++ h.1) front.2) ∙ ap (λ x. to_ascii_lowercase front.0 ∷ x) (in_any_case w h.1 h.3) ∙ ap (λ x. x ∷ w) first

-- a class of characters that have no case
lower_keeps : (f : ℕ → Bool) → ((c : ℕ) → f c ≡ true → f (to_ascii_lowercase c) ≡ true) → (t : List ℕ) → list_any f (map to_ascii_lowercase t) ≡ false → list_any f t ≡ false
lower_keeps f keeps [] e = refl
lower_keeps f keeps (c ∷ t) e = by (f c) refl (f (to_ascii_lowercase c)) refl e (λ h. lower_keeps f keeps t h)
  where
    by : (b : Bool) → f c ≡ b → (d : Bool) → f (to_ascii_lowercase c) ≡ d → d || list_any f (map to_ascii_lowercase t) ≡ false → (list_any f (map to_ascii_lowercase t) ≡ false → list_any f t ≡ false)
        → b || list_any f t ≡ false
    by true p true q h rest = cc
    by true p false q h rest = absurd (true≢false (sym (keeps c p) ∙ q))
    by false p true q h rest = cc
    by false p false q h rest = rest h

one_of : (b : Bool) → b || false ≡ true → b ≡ true
one_of true e = refl
one_of false e = cc

colon_keeps : (c : ℕ) → among colon c ≡ true → among colon (to_ascii_lowercase c) ≡ true
colon_keeps c h = let e : c ≡ 58 = eqb-true c 58 (one_of (c == 58) h) in subst (λ k. among colon (to_ascii_lowercase k) ≡ true) (sym e) refl

at_keeps : (c : ℕ) → among at_sign c ≡ true → among at_sign (to_ascii_lowercase c) ≡ true
at_keeps c h = let e : c ≡ 64 = eqb-true c 64 (one_of (c == 64) h) in subst (λ k. among at_sign (to_ascii_lowercase k) ≡ true) (sym e) refl

digit_keeps : (c : ℕ) → is_digit c ≡ true → is_digit (to_ascii_lowercase c) ≡ true
unfolding is_digit
digit_keeps c h = grind arith

-- a word in any case, of which the lower case is given
cased_word : (t w : List ℕ) → map to_ascii_lowercase t ≡ w → list_any (among colon) w ≡ false → list_any (among at_sign) w ≡ false → list_any is_digit w ≡ false → sort_of t ≡ word_sort w
unfolding sort_of
cased_word t w e no_colon no_at no_digit =
    passed (list_any (among colon) t) (name_sort t) _ (lower_keeps (among colon) colon_keeps t (ap (list_any (among colon)) e ∙ no_colon))
    ∙ passed (list_any (among at_sign) t) LanguageTag _ (lower_keeps (among at_sign) at_keeps t (ap (list_any (among at_sign)) e ∙ no_at))
    ∙ passed (list_any is_digit t) (number_sort t) _ (lower_keeps is_digit digit_keeps t (ap (list_any is_digit) e ∙ no_digit))
    ∙ ap word_sort e

sort_prefix : (t : List ℕ) → Matches (word_in_any_case (codes "prefix")) t → sort_of t ≡ Prefix
unfolding is_digit
sort_prefix t h = cased_word t (codes "prefix") (in_any_case (codes "prefix") t h) refl refl refl

sort_base : (t : List ℕ) → Matches (word_in_any_case (codes "base")) t → sort_of t ≡ Base
unfolding is_digit
sort_base t h = cased_word t (codes "base") (in_any_case (codes "base") t h) refl refl refl

-- ---- tags and numbers

is_among : (k c : ℕ) → (c == k) ≡ true → among (k ∷ []) c ≡ true
is_among k c e = by (c == k) e
  where
    by : (b : Bool) → b ≡ true → b || false ≡ true
    by true e = refl
    by false e = cc

sort_tag : (t : List ℕ) → Matches langtag t → sort_of t ≡ LanguageTag
unfolding sort_of langtag is_letter is_letter_or_digit is_digit
sort_tag t h =
    passed (list_any (among colon) t) (name_sort t) _ (lacks_is colon langtag t refl h)
    ∙ picked (list_any (among at_sign) t) LanguageTag _ (has_is (among at_sign) langtag t (inl (inl (is_among 64))) h)

number : (p : Pattern) (t : List ℕ) → Matches p t → lacks colon p ≡ true → lacks at_sign p ≡ true → Has is_digit p → sort_of t ≡ number_sort t
unfolding sort_of
number p t h no_colon no_at digit =
    passed (list_any (among colon) t) (name_sort t) _ (lacks_is colon p t no_colon h)
    ∙ passed (list_any (among at_sign) t) LanguageTag _ (lacks_is at_sign p t no_at h)
    ∙ picked (list_any is_digit t) (number_sort t) _ (has_is is_digit p t digit h)

no_exponent : (p : Pattern) (t : List ℕ) → Matches p t → lacks (codes "eE") p ≡ true → list_any is_exponent t ≡ false
unfolding is_exponent
no_exponent p t h e = lacks_is (codes "eE") p t e h

sort_integer : (t : List ℕ) → Matches integer t → sort_of t ≡ Integer
unfolding integer is_digit is_sign
sort_integer t h =
    number integer t h refl refl (inr (inl (λ c d. d)))
    ∙ passed (list_any is_exponent t) Double _ (no_exponent integer t h refl)
    ∙ passed (list_any (among dot) t) Decimal Integer (lacks_is dot integer t refl h)

sort_decimal : (t : List ℕ) → Matches decimal t → sort_of t ≡ Decimal
unfolding decimal is_digit is_sign
sort_decimal t h =
    number decimal t h refl refl (inr (inl (λ c d. d)))
    ∙ passed (list_any is_exponent t) Double _ (no_exponent decimal t h refl)
    ∙ picked (list_any (among dot) t) Decimal Integer (has_is (among dot) decimal t (inl (inr (is_among 46))) h)

sort_double : (t : List ℕ) → Matches double t → sort_of t ≡ Double
unfolding double is_digit is_sign is_exponent
sort_double t h =
    number double t h refl refl (inr ((inl (inl (inl (inl (λ c d. d)))), inl (inr (inl (λ c d. d)))), inl (inl (λ c d. d))))
    ∙ picked (list_any is_exponent t) Double _ (has_is is_exponent double t (inr ((inr (inl (inl (λ c d. d))), inr (inl (inl (λ c d. d)))), inr (inl (inl (λ c d. d))))) h)

-- ---- names

named : (t : List ℕ) → list_any (among colon) t ≡ true → sort_of t ≡ name_sort t
unfolding sort_of
named t h = picked (list_any (among colon) t) (name_sort t) _ h

not_first : (p : Pattern) (k c : ℕ) (t : List ℕ) → starts p k ≡ false → Matches p (c ∷ t) → (c == k) ≡ false
not_first p k c t never h = by (c == k) refl
  where
    by : (b : Bool) → (c == k) ≡ b → b ≡ false
    by false e = refl
    by true e = absurd (true≢false (sym (starts_is p c t h) ∙ ap (starts p) (eqb-true c k e) ∙ never))

not_empty : (p : Pattern) → is_empty p ≡ false → Matches p [] → ⊥
not_empty p e h = true≢false (sym (to_empty p h) ∙ e)

three : (b : Bool) → ((b || false) || false) || false ≡ true → b ≡ true
three true e = refl
three false e = cc

sort_label : (t : List ℕ) → Matches blank_label t → sort_of t ≡ BlankLabel
unfolding blank_label
sort_label t h = named t (has_is (among colon) blank_label t (inl (inl (inr (is_among 58)))) h) ∙ by t h
  where
    by : (t : List ℕ) → Matches blank_label t → name_sort t ≡ BlankLabel
    by [] h = refl
    by (c ∷ t) h = picked (c == 95) BlankLabel _ (three (c == 95) (starts_is blank_label c t h))

-- what stands after a prefix and its colon
after_prefix : (a : List ℕ) (d : ℕ) (rest : List ℕ) → list_any (among colon) a ≡ false → (d == 58) ≡ true → rest_after (a ++ d ∷ rest) ≡ rest
after_prefix [] d rest none e = by (d == 58) e
  where
    by : (b : Bool) → b ≡ true → cond b rest (rest_after rest) ≡ rest
    by true e = refl
    by false e = cc
after_prefix (c ∷ a) d rest none e = by (c == 58) none (λ h. after_prefix a d rest h e)
  where
    by : (b : Bool) → (b || false) || list_any (among colon) a ≡ false → (list_any (among colon) a ≡ false → rest_after (a ++ d ∷ rest) ≡ rest) → cond b (a ++ d ∷ rest) (rest_after (a ++ d ∷ rest)) ≡ rest
    by true h more = cc
    by false h more = more h

-- a name that begins with no `_`
named_by : (p : Pattern) (t : List ℕ) → starts p 95 ≡ false → is_empty p ≡ false → Matches p t → name_sort t ≡ local_sort (rest_after t)
named_by p [] never some h = absurd (not_empty p some h)
named_by p (c ∷ t) never some h = passed (c == 95) BlankLabel _ (not_first p 95 c t never h)

prefix_rest : (t more : List ℕ) → Matches (maybe pn_prefix then char 58) t → rest_after (t ++ more) ≡ more
unfolding is_name_base is_letter is_name_char is_name_start is_digit
prefix_rest t more h =
    let d = h.3 in
    let none : list_any (among colon) h.0 ≡ false = lacks_is colon (maybe pn_prefix) h.0 refl h.2 in
    ap (λ x. rest_after (x ++ more)) (h.4 ∙ ap (λ x. h.0 ++ x) d.2) ∙ ap rest_after (append_assoc h.0 (d.0 ∷ []) more) ∙ after_prefix h.0 d.0 more none d.1

sort_namespace : (t : List ℕ) → Matches pname_ns t → sort_of t ≡ Namespace
unfolding pname_ns is_name_base is_letter
sort_namespace t h =
    named t (has_is (among colon) pname_ns t (inr (is_among 58)) h) ∙ named_by pname_ns t refl refl h
    ∙ ap local_sort (ap rest_after (sym (append-nil t)) ∙ prefix_rest t [] h)

sort_name : (t : List ℕ) → Matches pname_ln t → sort_of t ≡ PrefixedName
unfolding pname_ln is_name_base is_letter
sort_name t h =
    named t (has_is (among colon) pname_ln t (inl (inr (is_among 58))) h) ∙ named_by pname_ln t refl refl h
    ∙ ap (λ x. local_sort (rest_after x)) h.4 ∙ ap local_sort (prefix_rest h.0 h.1 h.2) ∙ some h.1 h.3
  where
    some : (l : List ℕ) → Matches pn_local l → local_sort l ≡ PrefixedName
    some [] h = absurd (not_empty pn_local refl h)
    some (c ∷ l) h = refl

-- ---- all kinds

two : (b : Bool) → (b || false) || false ≡ true → b ≡ true
two true e = refl
two false e = cc

opened_by : (p : Pattern) (k : ℕ) (t : List ℕ) → ((c : ℕ) → starts p c ≡ true → (c == k) ≡ true) → is_empty p ≡ false → Matches p t → (rest : List ℕ) × (t ≡ k ∷ rest)
opened_by p k [] first some h = absurd (not_empty p some h)
opened_by p k (c ∷ t) first some h = (t, ap (λ x. x ∷ t) (eqb-true c k (first c (starts_is p c t h))))

-- what a text of a kind is: of this sort, or begun by a quote or `<`
abbrev pub IsSorted : TokenKind → List ℕ → Type 0
IsSorted kind t = (sort_of t ≡ kind) ⊎ ((rest : List ℕ) × ((t ≡ 60 ∷ rest) ⊎ ((t ≡ 34 ∷ rest) ⊎ (t ≡ 39 ∷ rest))))

word_of : (w t : List ℕ) (kind : TokenKind) → Matches (word w) t → sort_of w ≡ kind → IsSorted kind t
word_of w t kind h e = inl (ap sort_of (exact w t h) ∙ e)

pub sorted : (kind : TokenKind) (t : List ℕ) → Matches (pattern kind) t → IsSorted kind t
unfolding pattern sort_of is_digit iriref short_string long_string
sorted Iri t h = let r = opened_by iriref 60 t (λ c e. two (c == 60) e) refl h in inr (r.0, inl r.1)
sorted Namespace t h = inl (sort_namespace t h)
sorted PrefixedName t h = inl (sort_name t h)
sorted BlankLabel t h = inl (sort_label t h)
sorted LanguageTag t h = inl (sort_tag t h)
sorted Integer t h = inl (sort_integer t h)
sorted Decimal t h = inl (sort_decimal t h)
sorted Double t h = inl (sort_double t h)
sorted String t h = let r = opened_by (short_string 34) 34 t (λ c e. two (c == 34) e) refl h in inr (r.0, inr (inl r.1))
sorted SingleString t h = let r = opened_by (short_string 39) 39 t (λ c e. two (c == 39) e) refl h in inr (r.0, inr (inr r.1))
sorted LongSingleString t h = let r = opened_by (long_string 39) 39 t (λ c e. three (c == 39) e) refl h in inr (r.0, inr (inr r.1))
sorted LongString t h = let r = opened_by (long_string 34) 34 t (λ c e. three (c == 34) e) refl h in inr (r.0, inr (inl r.1))
sorted Dot t h = word_of (codes ".") t Dot h refl
sorted Comma t h = word_of (codes ",") t Comma h refl
sorted Semicolon t h = word_of (codes ";") t Semicolon h refl
sorted OpenSquare t h = word_of (codes "[") t OpenSquare h refl
sorted CloseSquare t h = word_of (codes "]") t CloseSquare h refl
sorted OpenRound t h = word_of (codes "(") t OpenRound h refl
sorted CloseRound t h = word_of (codes ")") t CloseRound h refl
sorted DoubleCaret t h = word_of (codes "^^") t DoubleCaret h refl
sorted A t h = word_of (codes "a") t A h refl
sorted True t h = word_of (codes "true") t True h refl
sorted False t h = word_of (codes "false") t False h refl
sorted Prefix t h = inl (sort_prefix t h)
sorted Base t h = inl (sort_base t h)
