-- Which texts are tokens wherever white space follows.
use Rattle.std.proofs.Common.{◌≡◌, ℕ, ◌<◌, ◌≤◌, nat_lt, nat_le, Bool, true, false, ◌||◌, ◌==◌, None, List, [], ◌∷◌, ◌++◌, length, IsUtf8, codes, refl, sym, ap, ◌∙◌, subst, true≢false, arith, ltb-true, leb-true}
use Rattle.std.specs.Prelude.{encode_utf8_all}
use Rattle.std.proofs.lemmas.Bool.{eqb-true, and_parts, or_parts}
use Rattle.std.proofs.lemmas.Str.{encode_ascii, encodes-chars, chars-append, IsUtf8-append, IsUtf8-from_is_utf8}
use Rattle.std.specs.List.{list_any, list_all}
use Rattle.std.specs.Str.{chars, is_utf8}
use Rattle.turtle_grammar.specs.Characters.{among, is_white, is_excluded}
use Rattle.turtle_grammar.specs.Pattern.{matches}
use Rattle.turtle_grammar.specs.Terminals.{pattern}
use Rattle.turtle_grammar.specs.Tokens.{opened, Finds}
use Rattle.turtle_grammar.specs.Tokens.Found.{token}
use Rattle.turtle_grammar.specs.declared.token.TokenKind.{TokenKind}
use Rattle.turtle_grammar.specs.declared.token.TokenKind.TheVariants.{Iri, String}
use Rattle.turtle_words.specs.Words.{begins_token, begins_white, IsToken, ends_string, IrisAreTokens, StringsAreTokens}
use Rattle.turtle_words.proofs.Plain.{ends_all, found_plain}
use Rattle.turtle_words.proofs.Quoted.{found_iri, found_string}
use lib.Utf8.{encode}

-- ---- characters and bytes

-- a class of characters below 128
abbrev IsLow : (ℕ → Bool) → Type 0
IsLow class = (c : ℕ) → class c ≡ true → c < 128

among_low : (ks : List ℕ) → list_all (λ k. nat_lt k 128) ks ≡ true → IsLow (among ks)
among_low [] h c e = cc
among_low (k ∷ ks) h c e =
    let both = and_parts (nat_lt k 128) (list_all (λ k. nat_lt k 128) ks) h in
    by (c == k) refl e both.0 (λ e. among_low ks both.1 c e)
  where
    by : (b : Bool) → (c == k) ≡ b → b || among ks c ≡ true → nat_lt k 128 ≡ true → (among ks c ≡ true → c < 128) → c < 128
    by true same e low rest = let is : c ≡ k = eqb-true c k same in let below : k < 128 = ltb-true k 128 low in omega (arith, is, below)
    by false apart e low rest = rest e

excluded_marks : List ℕ
excluded_marks = codes "<>\"{}|^`\\"

excluded_low : IsLow is_excluded
unfolding is_excluded excluded_marks
excluded_low c e = by (nat_le c 32) refl e
  where
    by : (b : Bool) → nat_le c 32 ≡ b → b || among excluded_marks c ≡ true → c < 128
    by true le e = let low : c ≤ 32 = leb-true c 32 le in omega (arith, low)
    by false more e = among_low excluded_marks refl c e

-- what no byte of a text is, no character of it is

any_right : (class : ℕ → Bool) (a b : List ℕ) → list_any class (a ++ b) ≡ false → list_any class b ≡ false
any_right class [] b h = h
any_right class (c ∷ a) b h = any_right class a b (or_parts (class c) (list_any class (a ++ b)) h).1

no_character : (class : ℕ → Bool) → IsLow class → (cs : List ℕ) → list_any class (encode_utf8_all cs) ≡ false → list_any class cs ≡ false
no_character class low [] h = refl
no_character class low (c ∷ cs) h = by (class c) refl (no_character class low cs (any_right class (encode c) (encode_utf8_all cs) h))
  where
    by : (v : Bool) → class c ≡ v → list_any class cs ≡ false → class c || list_any class cs ≡ false
    by false e rest = ap (λ v. v || list_any class cs) e ∙ rest
    by true e rest =
        let first : list_any class (c ∷ encode_utf8_all cs) ≡ false = sym (ap (λ l. list_any class (l ++ encode_utf8_all cs)) (encode_ascii c (low c e))) ∙ h in
        absurd (true≢false (sym (ap (λ v. v || list_any class (encode_utf8_all cs)) e) ∙ first))

no_character_of : (class : ℕ → Bool) → IsLow class → (text : List ℕ) → IsUtf8 text → list_any class text ≡ false → list_any class (chars text) ≡ false
no_character_of class low text utf8 h = no_character class low (chars text) (ap (list_any class) (encodes-chars text utf8) ∙ h)

pub no_excluded : (text : List ℕ) → IsUtf8 text → list_any is_excluded text ≡ false → list_any is_excluded (chars text) ≡ false
no_excluded text = no_character_of is_excluded excluded_low text

pub no_ending : (text : List ℕ) → IsUtf8 text → list_any ends_string text ≡ false → list_any ends_string (chars text) ≡ false
no_ending text = no_character_of ends_string (among_low (34 ∷ 92 ∷ 10 ∷ 13 ∷ []) refl) text

-- ---- between and_parts marks

-- a mark is one character of one byte
abbrev IsMark : ℕ → Type 0
IsMark c = (is_utf8 (c ∷ []) ≡ true) × (chars (c ∷ []) ≡ c ∷ [])

between_utf8 : (first last : ℕ) (text : List ℕ) → IsMark first → IsMark last → IsUtf8 text → IsUtf8 (first ∷ (text ++ last ∷ []))
between_utf8 first last text o c utf8 =
    IsUtf8-append (first ∷ []) (text ++ last ∷ []) (IsUtf8-from_is_utf8 (first ∷ []) o.0) (IsUtf8-append text (last ∷ []) utf8 (IsUtf8-from_is_utf8 (last ∷ []) c.0))

pub between_chars : (first last : ℕ) (text : List ℕ) → IsMark first → IsMark last → IsUtf8 text → chars (first ∷ (text ++ last ∷ [])) ≡ first ∷ (chars text ++ last ∷ [])
between_chars first last text o c utf8 =
    chars-append (first ∷ []) (text ++ last ∷ []) (IsUtf8-from_is_utf8 (first ∷ []) o.0)
    ∙ ap (λ l. l ++ chars (text ++ last ∷ [])) o.1
    ∙ ap (λ l. first ∷ l) (chars-append text (last ∷ []) utf8 ∙ ap (λ l. chars text ++ l) c.1)

pub less_mark : IsMark 60
unfolding is_utf8 chars encode
less_mark = (refl, refl)

pub greater_mark : IsMark 62
unfolding is_utf8 chars encode
greater_mark = (refl, refl)

pub quote_mark : IsMark 34
unfolding is_utf8 chars encode
quote_mark = (refl, refl)

-- ---- tokens

found_as : (kind : TokenKind) (text own : List ℕ) → chars text ≡ own → ((rest : List ℕ) → begins_white rest ≡ true → Finds (own ++ rest) (token kind (length own)))
    → (rest : List ℕ) → begins_white rest ≡ true → Finds (chars text ++ rest) (token kind (length (chars text)))
found_as kind text own e found rest white = subst (λ (l : List ℕ). Finds (l ++ rest) (token kind (length l))) (sym e) (found rest white)

pub iris_are_tokens : IrisAreTokens
unfolding is_white
iris_are_tokens text utf8 none =
    let own = between_chars 60 62 text less_mark greater_mark utf8 in
    record {
      utf8 = between_utf8 60 62 text less_mark greater_mark utf8;
      begins = ap begins_token own;
      found = found_as Iri (60 ∷ (text ++ 62 ∷ [])) (60 ∷ (chars text ++ 62 ∷ [])) own (λ rest white. found_iri (chars text) rest (no_excluded text utf8 none));
    }

pub strings_are_tokens : StringsAreTokens
unfolding is_white
strings_are_tokens text utf8 none =
    let own = between_chars 34 34 text quote_mark quote_mark utf8 in
    record {
      utf8 = between_utf8 34 34 text quote_mark quote_mark utf8;
      begins = ap begins_token own;
      found = found_as String (34 ∷ (text ++ 34 ∷ [])) (34 ∷ (chars text ++ 34 ∷ [])) own (λ rest white. found_string (chars text) rest (no_ending text utf8 none) white);
    }

-- a text that nothing opens
pub plain_token : (kind : TokenKind) (text : List ℕ) → is_utf8 text ≡ true → chars text ≡ text → begins_token text ≡ true → opened text ≡ None
    → ((rest : List ℕ) → opened (text ++ rest) ≡ None) → matches (pattern kind) text ≡ true → ends_all text ≡ true → IsToken kind text
plain_token kind text utf8 same begins none still is ends =
    record {
      utf8 = IsUtf8-from_is_utf8 text utf8;
      begins = ap begins_token same ∙ begins;
      found = found_as kind text text same (λ rest white. found_plain kind text rest none (still rest) is ends white);
    }
