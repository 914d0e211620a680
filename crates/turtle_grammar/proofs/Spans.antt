-- Where the next token of a text lies.
use Rattle.std.proofs.Common.{◌≡◌, ℕ, zero, suc, ◌+◌, ◌-◌, ◌<◌, ◌≤◌, true, List, [], ◌∷◌, ◌++◌, length, take, drop, IsUtf8, Option, None, Some, refl, ap, sym, subst, ◌∙◌, true≢false, arith, length-append}
use Rattle.std.specs.Prelude.{encode_utf8_all, MatchOption}
use Rattle.std.specs.Str.{chars}
use Rattle.std.proofs.lemmas.Bool.{and_parts}
use Rattle.std.proofs.lemmas.List.{length-drop, take-append-drop, drop-drop, drop_at}
use Rattle.std.proofs.lemmas.Str.{encodes-append, encodes-chars, scalars-chars, chars-encodes, length-le-encodes}
use lib.Utf8.{scalar, scalars}
use Rattle.turtle_grammar.specs.Pattern.{Matches}
use Rattle.turtle_grammar.specs.Terminals.{pattern}
use Rattle.turtle_grammar.specs.Tokens.{Finds, FindsOpened, FindsPlain, opened, bytes_of}
use Rattle.turtle_grammar.specs.Tokens.Found.{token}
use Rattle.turtle_grammar.specs.declared.token.TokenKind.{TokenKind}
use Rattle.turtle_grammar.specs.Spans.{HasRisingSpans}
use Rattle.turtle_grammar.proofs.Derivatives.{complete}
use Rattle.turtle_grammar.proofs.OneAnswer.{no_empty_token}

scalars_drop : (n : ℕ) (cs : List ℕ) → scalars cs ≡ true → scalars (drop n cs) ≡ true
scalars_drop zero cs h = h
scalars_drop (suc n) [] h = h
scalars_drop (suc n) (c ∷ cs) h = scalars_drop n cs (and_parts (scalar c) (scalars cs) h).1

-- some characters of a text in UTF-8 from a place on, and what is left after them
pub record Cut (bytes : List ℕ) (at : ℕ) (n : ℕ) : Type 0 where
  pub within : at + bytes_of (take n (chars (drop at bytes))) ≤ length bytes
  pub utf8 : IsUtf8 (drop (at + bytes_of (take n (chars (drop at bytes)))) bytes)
  pub rest : chars (drop (at + bytes_of (take n (chars (drop at bytes)))) bytes) ≡ drop n (chars (drop at bytes))

pub cut : (bytes : List ℕ) (at n : ℕ) → at ≤ length bytes → IsUtf8 (drop at bytes) → Cut bytes at n
cut bytes at n within utf8 =
    let text : List ℕ = drop at bytes in
    let cs : List ℕ = chars (drop at bytes) in
    let whole : drop at bytes ≡ encode_utf8_all (take n (chars (drop at bytes))) ++ encode_utf8_all (drop n (chars (drop at bytes))) =
    sym (encodes-chars (drop at bytes) utf8) ∙ ap encode_utf8_all (sym (take-append-drop n (chars (drop at bytes)))) ∙ encodes-append (take n (chars (drop at bytes))) (drop n (chars (drop at bytes))) in
    let long : length bytes - at ≡ bytes_of (take n (chars (drop at bytes))) + length (encode_utf8_all (drop n (chars (drop at bytes)))) =
    sym (length-drop at bytes) ∙ ap length whole ∙ length-append (encode_utf8_all (take n (chars (drop at bytes)))) (encode_utf8_all (drop n (chars (drop at bytes)))) in
    let left : drop (at + bytes_of (take n (chars (drop at bytes)))) bytes ≡ encode_utf8_all (drop n (chars (drop at bytes))) =
    after bytes at (encode_utf8_all (take n (chars (drop at bytes)))) (encode_utf8_all (drop n (chars (drop at bytes)))) whole in
    let fine : scalars (drop n (chars (drop at bytes))) ≡ true = scalars_drop n (chars (drop at bytes)) (scalars-chars (drop at bytes) utf8) in
    record {
      within = omega arith;
      utf8 = (drop n (chars (drop at bytes)), (fine, sym left));
      rest = ap chars left ∙ chars-encodes (drop n (chars (drop at bytes))) fine;
    }
  where
    after : (bytes : List ℕ) (at : ℕ) (a b : List ℕ) → drop at bytes ≡ a ++ b → drop (at + length a) bytes ≡ b
    after bytes at a b e = sym (drop-drop (length a) at bytes) ∙ ap (drop (length a)) e ∙ drop_at a b (length a) refl

-- a token has a character at least
some_char : (kind : TokenKind) (text : List ℕ) → Matches (pattern kind) text → 0 < length text
some_char kind [] h = absurd (true≢false (sym (complete (pattern kind) [] h) ∙ no_empty_token kind))
some_char kind (c ∷ text) h = omega arith

matched : (text : List ℕ) (kind : TokenKind) (m : ℕ) → Finds text (token kind m) → Matches (pattern kind) (take m text)
matched text kind m h = by (opened text) h
  where
    by : (o : Option TokenKind) → MatchOption o (FindsPlain text (token kind m)) (λ k. FindsOpened k text (token kind m)) → Matches (pattern kind) (take m text)
    by None h = h.1
    by (Some k) h = subst (λ (l : TokenKind). Matches (pattern l) (take m text)) (sym h.0) h.1.1

pub rising_spans : HasRisingSpans
rising_spans bytes place t within utf8 h =
    let g : ℕ = h.0 in
    let m : ℕ = h.2.0 in
    let before : Cut bytes place h.0 = cut bytes place h.0 within utf8 in
    let at : ℕ = place + bytes_of (take h.0 (chars (drop place bytes))) in
    let own : Cut bytes (place + bytes_of (take h.0 (chars (drop place bytes)))) h.2.0 = cut bytes _ h.2.0 before.within before.utf8 in
    let upto : t.upto ≡ (place + bytes_of (take h.0 (chars (drop place bytes)))) + bytes_of (take h.2.0 (chars (drop (place + bytes_of (take h.0 (chars (drop place bytes)))) bytes))) =
    h.2.3 ∙ ap (λ cs. (place + bytes_of (take h.0 (chars (drop place bytes)))) + bytes_of (take h.2.0 cs)) (sym before.rest) in
    let chars_some : 0 < length (take h.2.0 (drop h.0 (chars (drop place bytes)))) = some_char t.kind _ (matched _ t.kind h.2.0 h.2.1) in
    let bytes_some : length (take h.2.0 (drop h.0 (chars (drop place bytes)))) ≤ bytes_of (take h.2.0 (drop h.0 (chars (drop place bytes)))) = length-le-encodes _ in
    let start : t.at ≡ place + bytes_of (take h.0 (chars (drop place bytes))) = h.2.2 in
    let end : t.upto ≡ (place + bytes_of (take h.0 (chars (drop place bytes)))) + bytes_of (take h.2.0 (drop h.0 (chars (drop place bytes)))) = h.2.3 in
    record {
      from = omega arith;
      some = omega arith;
      within = let fits : (place + bytes_of (take h.0 (chars (drop place bytes)))) + bytes_of (take h.2.0 (chars (drop (place + bytes_of (take h.0 (chars (drop place bytes)))) bytes))) ≤ length bytes = own.within in omega arith;
      begins = subst (λ (i : ℕ). IsUtf8 (drop i bytes)) (sym start) before.utf8;
      ends = subst (λ (i : ℕ). IsUtf8 (drop i bytes)) (sym upto) own.utf8;
    }
