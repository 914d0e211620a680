-- A text without a backslash says what it is, and one where a backslash is found has it.
use Rattle.std.proofs.Common.{◌≡◌, ℕ, ◌≤◌, ◌==◌, not, Bool, List, [], ◌∷◌, ◌++◌, Some, Contains, encode_utf8_all, filter, length, take, drop, if◌then◌else◌, refl, sym, ap, ◌∙◌, subst, arith}
use Rattle.std.proofs.lemmas.List.{take-append-drop}
use Rattle.std.proofs.lemmas.List.Elements.{Contains-append_right}
use Rattle.std.proofs.lemmas.Str.{chars_from_encodes, chars_past_char, chars-append, IsUtf8-take, IsUtf8-drop}
use Rattle.std.specs.Str.{chars, IsUtf8, IsCharBoundary, NonePass, NoCharPasses}
use Rattle.std.specs.Str.Pattern.{FindsChar}
use Rattle.turtle_grammar.specs.Value.{unescaped, unescaped_up_to, escape_value, escape_len}

plain_chars : (cs : List ℕ) → NonePass (λ d. d == 92) cs → unescaped cs ≡ cs
plain_chars [] h = refl
plain_chars (c ∷ cs) h =
    ap (λ (b : Bool). if b then escape_value cs ∷ unescaped_up_to (length cs) (drop (escape_len cs) cs) else c ∷ unescaped cs) h.0 ∙ ap (λ x. c ∷ x) (plain_chars cs h.1)

same_filter : (cs : List ℕ) → NonePass (λ d. d == 92) cs → filter (λ c. not (c == 92)) cs ≡ cs
same_filter [] h = refl
same_filter (c ∷ cs) h =
    ap (λ (b : Bool). if not b then c ∷ filter (λ x. not (x == 92)) cs else filter (λ x. not (x == 92)) cs) h.0 ∙ ap (λ x. c ∷ x) (same_filter cs h.1)

-- in characters and back
plain : (text : List ℕ) → IsUtf8 text → NoCharPasses (λ d. d == 92) text → encode_utf8_all (unescaped (chars text)) ≡ text
plain text u h =
    let same : h.0 ≡ chars text = chars_from_encodes h.0 text u h.1 in
    subst (λ x. encode_utf8_all (unescaped x) ≡ text) same (ap encode_utf8_all (plain_chars h.0 h.2) ∙ h.1)

pub plain_filter : (text : List ℕ) → IsUtf8 text → NoCharPasses (λ d. d == 92) text → encode_utf8_all (filter (λ c. not (c == 92)) (chars text)) ≡ text
plain_filter text u h =
    let same : h.0 ≡ chars text = chars_from_encodes h.0 text u h.1 in
    subst (λ x. encode_utf8_all (filter (λ c. not (c == 92)) x) ≡ text) same (ap encode_utf8_all (same_filter h.0 h.2) ∙ h.1)

-- the same of a text whose characters are known
pub plain_of : (text cs : List ℕ) → IsUtf8 text → NoCharPasses (λ d. d == 92) text → chars text ≡ cs → text ≡ encode_utf8_all (unescaped cs)
plain_of text cs u h e = sym (plain text u h) ∙ ap (λ x. encode_utf8_all (unescaped x)) e

-- where `find` stops is a character of the text
pub found : (text : List ℕ) (i : ℕ) → IsUtf8 text → (j : ℕ) × FindsChar 92 text (Some (i, j)) × (i ≤ j) × IsCharBoundary text i × IsCharBoundary text j → Contains (chars text) 92
found text i u h =
    let front = take i text in
    let after = chars (drop h.0 text) in
    let behind : chars (drop i text) ≡ 92 ∷ after = chars_past_char (drop i text) (drop h.0 text) 92 (IsUtf8-drop text i u h.3) h.1.1.split in
    let cut : chars text ≡ chars front ++ chars (drop i text) = ap chars (sym (take-append-drop i text)) ∙ chars-append front (drop i text) (IsUtf8-take text i u h.3) in
    let whole : chars text ≡ chars front ++ (92 ∷ after) = cut ∙ ap (λ x. chars front ++ x) behind in
    subst (λ x. Contains x 92) (sym whole) (Contains-append_right (chars front) (92 ∷ after) 92 (0, omega arith, refl))
