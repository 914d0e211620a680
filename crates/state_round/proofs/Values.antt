-- What the leaves of a state file stand for.
use Rattle.std.proofs.Common.{◌≡◌, ℕ, zero, suc, ◌+◌, ◌-◌, ◌^◌, ◌%◌, ◌<◌, ◌≤◌, ◌==◌, Bool, true, false, not, cond, ◌&&◌, ◌||◌, List, [], ◌∷◌, ◌++◌, length, take, codes, IsUtf8, Result, Ok, Err, unwrap_or, refl, sym, ap, ◌∙◌, subst, true≢false, arith, length-append}
use Rattle.std.specs.Prelude.{decimal, is_some, encode_utf8_all}
use Rattle.std.proofs.lemmas.Bool.{eqb-true, and_parts, or_parts}
use Rattle.std.proofs.lemmas.Fmt.{decimal_by_steps, decimal_is_IsNumeral, IsAscii-decimal}
use Rattle.std.proofs.lemmas.List.{take_at, take_all, append_cancel_left}
use Rattle.std.proofs.lemmas.Str.{encodes-chars, IsUtf8-append, IsUtf8-from_ascii, IsUtf8-from_is_utf8}
use Rattle.std.specs.List.{list_any, list_all}
use Rattle.std.specs.Str.{chars, is_utf8}
use Rattle.std.specs.Str.Parse.{digits_value}
use Rattle.base64.proofs.Tables.{all_below_at}
use Rattle.state_file.specs.Order.{uri_text}
use Rattle.iri_resolve.specs.Components.{components, scheme_of}
use Rattle.iri_resolve.specs.Target.{resolved, marked, scheme_text}
use Rattle.iri_resolve.proofs.Itself.{resolved-itself}
use Rattle.turtle_grammar.specs.Characters.{is_excluded}
use Rattle.turtle_grammar.specs.Tree.Quoting.{double}
use Rattle.turtle_grammar.specs.Value.{inside, unescaped_up_to, unescaped, content, reference_of, string_of}
use Rattle.turtle_document.specs.Meaning.{Fault, absolute}
use Rattle.turtle_words.specs.Words.{ends_string}
use Rattle.turtle_words.proofs.Tokens.{between_chars, less_mark, greater_mark, quote_mark, no_excluded, no_ending}
use Rattle.state_round.specs.RoundTrip.{IsPlain, IsSelf, IsNumber}
use Rattle.state_round.proofs.Words.{angle, quote, subject_text, state_namespace, fx_namespace}
use Rattle.state_round.proofs.Tree.{leaf}
use lib.Utf8.{encode}

-- ---- tests of all characters

not_all : (class : ℕ → Bool) (text : List ℕ) → list_all (λ c. not (class c)) text ≡ true → list_any class text ≡ false
not_all class [] h = refl
not_all class (c ∷ text) h = by (class c) refl h (not_all class text)
  where
    by : (b : Bool) → class c ≡ b → not b && list_all (λ c. not (class c)) text ≡ true → (list_all (λ c. not (class c)) text ≡ true → list_any class text ≡ false) → class c || list_any class text ≡ false
    by true e h rest = cc
    by false e h rest = ap (λ v. v || list_any class text) e ∙ rest h

no_backslash : (class : ℕ → Bool) → class 92 ≡ true → (text : List ℕ) → list_any class text ≡ false → list_any (λ c. c == 92) text ≡ false
no_backslash class is [] h = refl
no_backslash class is (c ∷ text) h =
    let k = or_parts (class c) (list_any class text) h in
    by (c == 92) refl k.0 (no_backslash class is text k.1)
  where
    by : (b : Bool) → (c == 92) ≡ b → class c ≡ false → list_any (λ c. c == 92) text ≡ false → (c == 92) || list_any (λ c. c == 92) text ≡ false
    by true e out rest = absurd (true≢false (sym (ap class (eqb-true c 92 e) ∙ is) ∙ out))
    by false e out rest = ap (λ v. v || list_any (λ c. c == 92) text) e ∙ rest

-- ---- between and_parts marks

kept : (b : Bool) (x y : List ℕ) → b ≡ false → cond b x y ≡ y
kept true x y e = cc
kept false x y e = refl

unescaped_same : (n : ℕ) (cs : List ℕ) → length cs ≤ n → list_any (λ c. c == 92) cs ≡ false → unescaped_up_to n cs ≡ cs
unescaped_same zero [] le h = refl
unescaped_same zero (c ∷ cs) le h = absurd (omega arith)
unescaped_same (suc n) [] le h = refl
unescaped_same (suc n) (c ∷ cs) le h =
    let k = or_parts (c == 92) (list_any (λ c. c == 92) cs) h in
    kept (c == 92) _ (c ∷ unescaped_up_to n cs) k.0 ∙ ap (λ l. c ∷ l) (unescaped_same n cs (omega arith) k.1)

inside_is : (first last : ℕ) (cs : List ℕ) → inside 1 (first ∷ (cs ++ last ∷ [])) ≡ cs
inside_is first last cs =
    let size : length (first ∷ (cs ++ last ∷ [])) - (1 + 1) ≡ length cs = omega (arith, length-append cs (last ∷ [])) in
    ap (λ n. take n (cs ++ last ∷ [])) size ∙ take_at cs (last ∷ []) (length cs) refl

content_is : (first last : ℕ) (text : List ℕ) → IsUtf8 text → chars (first ∷ (text ++ last ∷ [])) ≡ first ∷ (chars text ++ last ∷ []) → list_any (λ c. c == 92) (chars text) ≡ false
    → content 1 (first ∷ (text ++ last ∷ [])) ≡ text
content_is first last text utf8 own none =
    ap (λ cs. encode_utf8_all (unescaped (inside 1 cs))) own
    ∙ ap (λ cs. encode_utf8_all (unescaped cs)) (inside_is first last (chars text))
    ∙ ap encode_utf8_all (unescaped_same (length (chars text)) (chars text) (omega arith) none)
    ∙ encodes-chars text utf8

reference_is : (iri : List ℕ) → IsUtf8 iri → list_any is_excluded iri ≡ false → reference_of (angle iri) ≡ iri
unfolding is_excluded
reference_is iri utf8 none =
    content_is 60 62 iri utf8 (between_chars 60 62 iri less_mark greater_mark utf8) (no_backslash is_excluded refl (chars iri) (no_excluded iri utf8 none))

pub string_is : (text : List ℕ) → IsPlain text → string_of double (quote text) ≡ text
string_is text is =
    content_is 34 34 text is.utf8 (between_chars 34 34 text quote_mark quote_mark is.utf8) (no_backslash ends_string refl (chars text) (no_ending text is.utf8 is.plain))

-- ---- IRIs

pub self_excludes : (iri : List ℕ) → IsSelf iri → list_any is_excluded iri ≡ false
self_excludes iri is = not_all is_excluded iri (and_parts (is_some (scheme_of iri)) (list_all (λ c. not (is_excluded c)) iri) is.full).1

absolute_is : (base iri : List ℕ) (at : ℕ) → IsUtf8 iri → list_any is_excluded iri ≡ false → absolute base (leaf at (angle iri)) ≡ Ok (resolved base iri)
absolute_is base iri at utf8 none =
    ap (λ r. pick (list_any is_excluded r) r) (reference_is iri utf8 none) ∙ ap (λ b. pick b iri) none
  where
    pick : Bool → List ℕ → Result (List ℕ) Fault
    pick b r = cond b (Err (Fault.bad_iri at)) (Ok (resolved base r))

-- an IRI that stands for itself
pub absolute_self : (base iri : List ℕ) (at : ℕ) → IsSelf iri → absolute base (leaf at (angle iri)) ≡ Ok iri
absolute_self base iri at is =
    absolute_is base iri at is.utf8 (self_excludes iri is)
    ∙ ap Ok (resolved-itself iri (and_parts (is_some (scheme_of iri)) (list_all (λ c. not (is_excluded c)) iri) is.full).0 is.undotted base)

-- ---- subjects

not_true : (b : Bool) → not b ≡ true → b ≡ false
not_true true e = cc
not_true false e = refl

digit_plain : (d : ℕ) → d < 10 → is_excluded (48 + d) ≡ false
unfolding is_excluded
digit_plain d less = not_true (is_excluded (48 + d)) (all_below_at (λ d. not (is_excluded (48 + d))) 10 d refl less)

push_plain : (ds : List ℕ) (c : ℕ) → list_any is_excluded ds ≡ false → is_excluded c ≡ false → list_any is_excluded (ds ++ c ∷ []) ≡ false
push_plain [] c h e = ap (λ b. b || false) e
push_plain (d ∷ ds) c h e =
    let k = or_parts (is_excluded d) (list_any is_excluded ds) h in
    ap (λ b. b || list_any is_excluded (ds ++ c ∷ [])) k.0 ∙ push_plain ds c k.1 e

decimal_plain : (n : ℕ) → n < 2 ^ 64 → list_any is_excluded (decimal n) ≡ false
decimal_plain n low =
    decimal_by_steps (λ n ds. list_any is_excluded ds ≡ false) (λ n less. ap (λ b. b || false) (digit_plain n less))
    (λ n ds ten rest. push_plain ds (48 + n % 10) rest (digit_plain (n % 10) (omega arith))) n low

pub subject_utf8 : (n : ℕ) → n < 2 ^ 64 → IsUtf8 (subject_text n)
unfolding is_utf8 chars encode
subject_utf8 n low = IsUtf8-append (codes "#save") (decimal n) (IsUtf8-from_is_utf8 (codes "#save") refl) (IsUtf8-from_ascii (decimal n) (IsAscii-decimal n low))

pub subject_plain : (n : ℕ) → n < 2 ^ 64 → list_any is_excluded (subject_text n) ≡ false
unfolding is_excluded
subject_plain n low = decimal_plain n low

abbrev pub subject_iri : List ℕ → ℕ → List ℕ
subject_iri base n = resolved base (subject_text n)

pub absolute_subject : (base : List ℕ) (n at : ℕ) → n < 2 ^ 64 → absolute base (leaf at (angle (subject_text n))) ≡ Ok (subject_iri base n)
absolute_subject base n at low = absolute_is base (subject_text n) at (subject_utf8 n low) (subject_plain n low)

-- a base up to its fragment
abbrev front_of : List ℕ → List ℕ
front_of base =
    scheme_text (components base).scheme ++ marked (codes "//") (components base).authority ++ (components base).path ++ marked (codes "?") (components base).query

-- a fragment alone, seen from a base
resolved_fragment : (base rest : List ℕ) → resolved base (35 ∷ rest) ≡ front_of base ++ (35 ∷ rest)
resolved_fragment base rest =
    let size : length rest ≤ length (35 ∷ rest) - 1 = omega arith in
    ap (λ l. front_of base ++ (35 ∷ l)) (take_all (length (35 ∷ rest) - 1) rest size)

-- subjects of other numbers are others
pub subject_same : (base : List ℕ) (m n : ℕ) → m < 2 ^ 64 → n < 2 ^ 64 → subject_iri base m ≡ subject_iri base n → m ≡ n
subject_same base m n low less e =
    let whole : front_of base ++ subject_text m ≡ front_of base ++ subject_text n = sym (resolved_fragment base (codes "save" ++ decimal m)) ∙ e ∙ resolved_fragment base (codes "save" ++ decimal n) in
    let digits : decimal m ≡ decimal n = append_cancel_left (codes "#save") (decimal m) (decimal n) (append_cancel_left (front_of base) (subject_text m) (subject_text n) whole) in
    sym (decimal_is_IsNumeral m low).1 ∙ ap (digits_value 10) digits ∙ (decimal_is_IsNumeral n less).1

-- ---- which stand for themselves

-- a number's URI stands for itself
pub self_of : (urids : List (List ℕ)) (number : ℕ) → IsNumber urids number → IsSelf (uri_text urids number)
self_of urids number is = subst IsSelf (sym (ap (λ uri. unwrap_or uri []) is.1)) is.2

pub state_self : IsSelf state_namespace
unfolding is_utf8 is_excluded chars encode
state_self = record { utf8 = IsUtf8-from_is_utf8 state_namespace refl; full = refl; undotted = refl }

pub fx_self : IsSelf fx_namespace
unfolding is_utf8 is_excluded chars encode
fx_self = record { utf8 = IsUtf8-from_is_utf8 fx_namespace refl; full = refl; undotted = refl }
