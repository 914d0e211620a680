-- One step over a character of a text.
use Rattle.std.proofs.Common.{◌≡◌, ℕ, ◌+◌, ◌<◌, ◌≤◌, List, [], ◌∷◌, ◌++◌, length, get_or, drop, chars, IsUtf8, sym, ap, ◌∙◌, subst, arith}
use Rattle.std.specs.Char.{len_utf8}
use Rattle.std.proofs.lemmas.List.{drop_more, drop_all, length-drop, length-append}
use Rattle.std.proofs.lemmas.Str.{chars-nil, chars_past_char, drop_past_char, IsUtf8-past_char, encode_ascii, length-encode, len_utf8_bounds, len_utf8_ascii}
use lib.Utf8.{encode}
use Rattle.turtle_lex.specs.Places.{IsPlace, chars_from, Reads}

pub from_end : (text : List ℕ) (at : ℕ) → length text ≤ at → chars_from text at ≡ []
from_end text at past = ap chars (drop_all at text past) ∙ chars-nil

pub char_step : (text : List ℕ) (at c : ℕ) (rest : List ℕ) → IsPlace text at → drop at text ≡ encode c ++ rest → Reads text at c (at + len_utf8 c)
char_step text at c rest p e =
    let here = drop_past_char text rest at c e in
    let lengths = sym (length-drop at text) ∙ ap length e ∙ length-append (encode c) rest in
    let P : List ℕ → Type 0 = λ x. IsUtf8 x in
    record {
      reads = chars_past_char (drop at text) rest c p.utf8 e ∙ ap (λ x. c ∷ chars x) (sym here);
      further = omega (arith, (len_utf8_bounds c).0);
      place = record {
        inside = omega (arith, lengths, length-encode c, p.inside);
        utf8 = subst P (sym here) (IsUtf8-past_char (drop at text) rest c p.utf8 e);
      };
    }

pub ascii_step : (text : List ℕ) (at : ℕ) → IsPlace text at → at < length text → get_or text at 0 < 128 → Reads text at (get_or text at 0) (at + 1)
ascii_step text at p inside small =
    let b = get_or text at 0 in
    let e : drop at text ≡ encode b ++ drop (at + 1) text = drop_more text at 0 inside ∙ ap (λ x. x ++ drop (at + 1) text) (sym (encode_ascii b small)) in
    let s = char_step text at b (drop (at + 1) text) p e in
    let w = len_utf8_ascii b small in
    let P : ℕ → Type 0 = λ n. Reads text at b (at + n) in
    subst P w s
