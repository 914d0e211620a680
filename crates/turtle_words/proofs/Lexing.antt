-- A text that is written word by word falls into the tokens of its words.
use Rattle.std.proofs.Common.{IsUtf8, ◌≡◌, ℕ, ◌+◌, true, not, ◌||◌, ◌==◌, List, [], ◌∷◌, ◌++◌, length, take, drop, refl, sym, ap, ◌∙◌, subst, arith, append-nil, append_assoc, length-append}
use Rattle.std.proofs.lemmas.Bool.{and_parts}
use Rattle.std.specs.Prelude.{encode_utf8_all}
use Rattle.std.proofs.lemmas.List.{take_at, drop_at, drop_all}
use Rattle.std.proofs.lemmas.Str.{chars-append, encodes-chars, IsUtf8-append, IsUtf8-from_is_utf8}
use Rattle.std.specs.List.{AllByRecursion}
use Rattle.std.specs.Str.{chars, is_utf8}
use Rattle.turtle_grammar.specs.Characters.{is_white}
use Rattle.turtle_grammar.specs.Pattern.{is_empty, after}
use Rattle.turtle_grammar.specs.Terminals.{gap}
use Rattle.turtle_grammar.specs.Tokens.{IsLongest, IsAnswer, IsNext, Lexes, bytes_of}
use Rattle.turtle_grammar.specs.Tokens.Answer.{next, end}
use Rattle.turtle_grammar.specs.declared.token.Token.{Token}
use Rattle.turtle_words.specs.Words.{Word, written, tokens_from, are_white, begins_white, begins_token, IsWord, AreSpaced, FallsIntoWords}
use Rattle.turtle_words.proofs.Runs.{is_fails, longest, white_is, gap_after, gap_empty, gap_stops}
use lib.Utf8.{encode}

-- ---- white space in bytes and in characters

white_first : (c : ℕ) (rest : List ℕ) → is_white c ≡ true → chars (c ∷ rest) ≡ c ∷ chars rest
unfolding chars
white_first c [] h = white_is (λ c. chars (c ∷ []) ≡ c ∷ []) refl refl refl refl c h
white_first c (b ∷ rest) h = white_is (λ c. chars (c ∷ b ∷ rest) ≡ c ∷ chars (b ∷ rest)) refl refl refl refl c h

white_chars : (g rest : List ℕ) → are_white g ≡ true → chars (g ++ rest) ≡ g ++ chars rest
white_chars [] rest h = refl
white_chars (c ∷ g) rest h =
    let k = and_parts (is_white c) (are_white g) h in
    white_first c (g ++ rest) k.0 ∙ ap (λ l. c ∷ l) (white_chars g rest k.1)

white_code : (c : ℕ) → is_white c ≡ true → encode c ≡ c ∷ []
unfolding encode
white_code c h = white_is (λ c. encode c ≡ c ∷ []) refl refl refl refl c h

white_bytes : (g : List ℕ) → are_white g ≡ true → encode_utf8_all g ≡ g
white_bytes [] h = refl
white_bytes (c ∷ g) h =
    let k = and_parts (is_white c) (are_white g) h in
    ap (λ l. l ++ encode_utf8_all g) (white_code c k.0) ∙ ap (λ l. c ∷ l) (white_bytes g k.1)

chars_white : (rest : List ℕ) → begins_white rest ≡ true → begins_white (chars rest) ≡ true
chars_white [] h = cc
chars_white (c ∷ rest) h = ap begins_white (white_first c rest h) ∙ h

-- ---- the gap before a token

gap_is : (g rest : List ℕ) → are_white g ≡ true → begins_token rest ≡ true → IsLongest gap (g ++ rest) (length g)
gap_is g rest white starts =
    longest gap g rest (ap is_empty (gap_after g white) ∙ gap_empty) (λ c left e. ap (λ p. is_fails (after c p)) (gap_after g white) ∙ gap_stops c (begun c left e))
  where
    begun : (c : ℕ) (left : List ℕ) → rest ≡ c ∷ left → not (is_white c || c == 35) ≡ true
    begun c left e = sym (ap begins_token e) ∙ starts

-- ---- the next word

-- how its bytes and what follows fall into characters
parted : (word : Word) (rest : List ℕ) → IsWord word → chars (word.space ++ (word.text ++ rest)) ≡ word.space ++ (chars word.text ++ chars rest)
parted word rest is =
    white_chars word.space (word.text ++ rest) is.white ∙ ap (λ l. word.space ++ l) (chars-append word.text rest is.is_token.utf8)

abbrev token_from : ℕ → Word → Token
token_from at word = record { kind = word.kind; at = at + length word.space; upto = (at + length word.space) + length word.text }

-- a token that begins a text begins it whatever follows
begins_so : (text rest : List ℕ) → begins_token text ≡ true → begins_token (text ++ rest) ≡ true
begins_so [] rest h = cc
begins_so (c ∷ text) rest h = h

answer_is : (word : Word) (rest : List ℕ) (at : ℕ) → IsWord word → begins_white rest ≡ true → IsAnswer (chars word.text ++ rest) (at + length word.space) (next (token_from at word))
answer_is word rest at is white =
    let own : bytes_of (take (length (chars word.text)) (chars word.text ++ rest)) ≡ length word.text =
    ap bytes_of (take_at (chars word.text) rest (length (chars word.text)) refl) ∙ ap length (encodes-chars word.text is.is_token.utf8) in
    (length (chars word.text), is.is_token.found rest white, refl, ap (λ n. (at + length word.space) + n) (sym own))

next_is : (word : Word) (rest : List ℕ) (at : ℕ) → IsWord word → begins_white rest ≡ true → IsNext (word.space ++ (chars word.text ++ rest)) at (next (token_from at word))
next_is word rest at is white =
    let skipped : bytes_of (take (length word.space) (word.space ++ (chars word.text ++ rest))) ≡ length word.space =
    ap bytes_of (take_at word.space (chars word.text ++ rest) (length word.space) refl) ∙ ap length (white_bytes word.space is.white) in
    let left : drop (length word.space) (word.space ++ (chars word.text ++ rest)) ≡ chars word.text ++ rest = drop_at word.space (chars word.text ++ rest) (length word.space) refl in (
      length word.space,
      gap_is word.space (chars word.text ++ rest) is.white (begins_so (chars word.text) rest is.is_token.begins),
      subst (λ (l : List ℕ). IsAnswer l (at + bytes_of (take (length word.space) (word.space ++ (chars word.text ++ rest)))) (next (token_from at word))) (sym left)
          (subst (λ (n : ℕ). IsAnswer (chars word.text ++ rest) (at + n) (next (token_from at word))) (sym skipped) (answer_is word rest at is white)),
    )

-- ---- all words

end_is : (more : List ℕ) (at : ℕ) → are_white more ≡ true → IsNext (chars more) at end
unfolding chars
end_is more at white =
    let whole : chars more ≡ more = ap chars (sym (append-nil more)) ∙ white_chars more [] white ∙ append-nil more in
    let left : drop (length more) more ≡ [] = drop_all (length more) more (omega arith) in
    subst (λ (l : List ℕ). IsNext l at end) (sym whole)
    (length more, subst (λ (l : List ℕ). IsLongest gap l (length more)) (append-nil more) (last more white), left)
  where
    last : (more : List ℕ) → are_white more ≡ true → IsLongest gap (more ++ []) (length more)
    last more white = longest gap more [] (ap is_empty (gap_after more white) ∙ gap_empty) (λ c left e. cc)

lexes : (bytes before : List ℕ) (words : List Word) (more : List ℕ) (at : ℕ) → bytes ≡ before ++ written words more → at ≡ length before
    → AllByRecursion IsWord words → AreSpaced words more → Lexes bytes at (tokens_from at words) end
lexes bytes before [] more at whole there words white =
    let here : drop at bytes ≡ more = ap (drop at) whole ∙ drop_at before more at (sym there) in
    (subst (λ (l : List ℕ). IsNext (chars l) at end) (sym here) (end_is more at white), tt)
lexes bytes before (word ∷ words) more at whole there is spaced =
    let here : chars (drop at bytes) ≡ word.space ++ (chars word.text ++ chars (written words more)) =
    ap chars (ap (drop at) whole ∙ drop_at before (written (word ∷ words) more) at (sym there)) ∙ parted word (written words more) is.0 in
    let passed : bytes ≡ (before ++ (word.space ++ word.text)) ++ written words more =
    whole ∙ ap (λ l. before ++ l) (sym (append_assoc word.space word.text (written words more))) ∙ sym (append_assoc before (word.space ++ word.text) (written words more)) in
    let upto : (at + length word.space) + length word.text ≡ length (before ++ (word.space ++ word.text)) =
    omega (arith, there, length-append before (word.space ++ word.text), length-append word.space word.text) in (
      subst (λ (l : List ℕ). IsNext l at (next (token_from at word))) (sym here) (next_is word (chars (written words more)) at is.0 (chars_white (written words more) spaced.0)),
      lexes bytes (before ++ (word.space ++ word.text)) words more ((at + length word.space) + length word.text) passed upto is.1 spaced.1,
    )

pub falls_into_words : FallsIntoWords
falls_into_words before words more is spaced = lexes (before ++ written words more) before words more (length before) refl refl is spaced

-- ---- the text is UTF-8

white_utf8 : (g : List ℕ) → are_white g ≡ true → IsUtf8 g
unfolding is_utf8 chars encode
white_utf8 [] h = IsUtf8-from_is_utf8 [] refl
white_utf8 (c ∷ g) h =
    let k = and_parts (is_white c) (are_white g) h in
    IsUtf8-append (c ∷ []) g
    (white_is (λ c. IsUtf8 (c ∷ [])) (IsUtf8-from_is_utf8 (32 ∷ []) refl) (IsUtf8-from_is_utf8 (9 ∷ []) refl) (IsUtf8-from_is_utf8 (13 ∷ []) refl) (IsUtf8-from_is_utf8 (10 ∷ []) refl) c k.0)
    (white_utf8 g k.1)

pub written_utf8 : (words : List Word) (more : List ℕ) → AllByRecursion IsWord words → are_white more ≡ true → IsUtf8 (written words more)
written_utf8 [] more is white = white_utf8 more white
written_utf8 (word ∷ words) more is white =
    IsUtf8-append word.space (word.text ++ written words more) (white_utf8 word.space is.0.white) (IsUtf8-append word.text (written words more) is.0.is_token.utf8 (written_utf8 words more is.1 white))
