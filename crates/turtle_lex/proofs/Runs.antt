-- Runs of bytes in names, in quotes and IRIs, in gaps and of digits and letters.
use Rattle.std.proofs.Common.{◌≡◌, inl, inr, ⊎_elim, ℕ, ◌+◌, ◌<◌, ◌≤◌, true, false, Ok, Some, List, [], ◌∷◌, ◌++◌, length, get_or, drop, refl, sym, ap, ◌∙◌, arith}
use Rattle.std.specs.Char.{len_utf8}
use Rattle.std.proofs.lemmas.Bool.{cases_lt, lt-leb, and_right, or_from}
use Rattle.std.proofs.lemmas.List.{length-drop}
use Rattle.std.proofs.lemmas.Str.{encodes-chars, byte_from_char}
use lib.Utf8.{encode, encodes}
use Rattle.turtle_grammar.specs.Pattern.{many, times, char}
use Rattle.turtle_grammar.specs.Characters.{is_digit, is_letter, is_letter_or_digit}
use Rattle.turtle_grammar.specs.declared.token.TokenKind.TheVariants.{Dot}
use Rattle.turtle_lex.specs.declared.class.Class.TheVariants.{White, Comment, Name, LocalName, Plain, Alphanumeric}
use Rattle.turtle_lex.specs.declared.enclosure.Enclosure.{Enclosure}
use Rattle.turtle_lex.specs.declared.run.Run.{Run}
use Rattle.turtle_lex.specs.declared.run.Run.TheVariants.{Digits, Letters, LettersOrDigits}
use Rattle.turtle_lex.specs.Classes.{class_byte, IsByteRun}
use Rattle.turtle_lex.specs.Enclosure.{plain, closing, piece, body, long_piece, long_body}
use Rattle.turtle_lex.specs.Names.{HasName, HasLocal}
use Rattle.turtle_lex.specs.Picks.{Carries, IsRun}
use Rattle.turtle_lex.specs.Places.{IsPlace, chars_from, Reads}
use Rattle.turtle_lex.specs.Run.{run_class}
use Rattle.turtle_lex.specs.Scans.{Goes}
use Rattle.turtle_lex.specs.Tags.{gap_state, GapCarries}
use Rattle.turtle_lex.proofs.Bodies.{leads_first, plain_only, piece_plain, piece_full, short_frame, body_live, body_piece, closing_not_plain, long_frame, long_step, long_full, long_live}
use Rattle.turtle_lex.proofs.Cursor.{from_end, char_step}
use Rattle.turtle_lex.proofs.Inside.{inside_last}
use Rattle.turtle_lex.proofs.LocalSteps.{part_more, local_part_more}
use Rattle.turtle_lex.proofs.NameSteps.{name_more}
use Rattle.turtle_lex.proofs.Opened.{inside, goes_on, goes_nowhere}
use Rattle.turtle_lex.proofs.Picked.{pick_or, run_more}
use Rattle.turtle_lex.proofs.TagSteps.{gap_white, gap_line, gap_accepts}
use Rattle.turtle_lex.proofs.Walks.{walk, small_byte, first_byte}

-- names
pub name_run : (text : List ℕ) (from at upto : ℕ) → HasName text from at at → IsByteRun (class_byte Name) text at upto → HasName text from upto upto
name_run text from at upto n run =
    let P : ℕ → Type 0 = λ u. HasName text from u u in
    walk Name text P at upto n.place run (λ a c next p r has h. name_more text from a a c next h r has (omega arith)) n

pub local_run : (text : List ℕ) (from at upto : ℕ) → HasLocal text from at at → IsByteRun (class_byte LocalName) text at upto → HasLocal text from upto upto
local_run text from at upto n run =
    let P : ℕ → Type 0 = λ u. HasLocal text from u u in
    walk LocalName text P at upto n.place run (λ a c next p r has h. local_part_more text from a a next h (omega arith) (part_more text a c next p r has)) n

-- characters that stand for themselves
short_goes : (e : Enclosure) (text : List ℕ) (at c next : ℕ) → Reads text at c next → plain e c ≡ true → Goes (body e) (body e) text at next
short_goes e text at c next r h =
    leads_first text at c next (body e) (inside (many (piece e)) (char (closing e)) (piece e)) (body e) (Ok next) r (body_piece e c (plain_only (plain e) c (closing e) (closing_not_plain e) h)) refl ((short_frame e).full (piece e)) (body_live e)
    (inside_last text at c next (piece e) r (piece_plain e c h) (piece_full e) (inside (many (piece e)) (char (closing e))) (short_frame e))

long_goes : (e : Enclosure) (text : List ℕ) (at c next : ℕ) → Reads text at c next → plain e c ≡ true → Goes (long_body e 0) (long_body e 0) text at next
long_goes e text at c next r h =
    leads_first text at c next (long_body e 0) (inside (many (long_piece e)) (times 3 (char (closing e))) (piece e)) (long_body e 0) (Ok next) r (long_step e 0 c (plain_only (plain e) c (closing e) (closing_not_plain e) h)) (long_full e 0) ((long_frame e).full (piece e)) (long_live e 0)
    (inside_last text at c next (piece e) r (piece_plain e c h) (piece_full e) (inside (many (long_piece e)) (times 3 (char (closing e)))) (long_frame e))

pub short_run : (e : Enclosure) (text : List ℕ) (from upto : ℕ) → IsPlace text from → IsByteRun (class_byte (Plain e)) text from upto → Goes (body e) (body e) text from upto
short_run e text from upto place run =
    let P : ℕ → Type 0 = λ u. Goes (body e) (body e) text from u in
    walk (Plain e) text P from upto place run (λ a c next p r has h. goes_on text from a next (body e) (body e) (body e) h (short_goes e text a c next r has)) (goes_nowhere text from (body e) place)

pub long_run : (e : Enclosure) (text : List ℕ) (from upto : ℕ) → IsPlace text from → IsByteRun (class_byte (Plain e)) text from upto → Goes (long_body e 0) (long_body e 0) text from upto
long_run e text from upto place run =
    let P : ℕ → Type 0 = λ u. Goes (long_body e 0) (long_body e 0) text from u in
    walk (Plain e) text P from upto place run (λ a c next p r has h. goes_on text from a next (long_body e 0) (long_body e 0) (long_body e 0) h (long_goes e text a c next r has)) (goes_nowhere text from (long_body e 0) place)

-- gaps
pub white_run : (text : List ℕ) (from upto : ℕ) → IsPlace text from → IsByteRun (class_byte White) text from upto → GapCarries false text from upto
white_run text from upto place run =
    let P : ℕ → Type 0 = λ u. GapCarries false text from u in
    walk White text P from upto place run (λ a c next p r has h. λ x k. h x (pick_or text a c next (gap_state false) (gap_state false) (Some x) (Some x) Dot p r (gap_white c has) (gap_accepts false) k refl)) (λ x k. k)

pub comment_run : (text : List ℕ) (from upto : ℕ) → IsPlace text from → IsByteRun (class_byte Comment) text from upto → GapCarries true text from upto
comment_run text from upto place run =
    let P : ℕ → Type 0 = λ u. GapCarries true text from u in
    walk Comment text P from upto place run (λ a c next p r has h. λ x k. h x (pick_or text a c next (gap_state true) (gap_state true) (Some x) (Some x) Dot p r (gap_line c ∙ ap gap_state has) (gap_accepts true) k refl)) (λ x k. k)

-- digits and letters
run_ascii : (run : Run) (c : ℕ) → 128 ≤ c → run_class run c ≡ false
unfolding is_digit is_letter is_letter_or_digit
run_ascii Digits c le = and_right _ _ (lt-leb c 57 (omega arith))
run_ascii Letters c le = or_from _ _ (and_right _ _ (lt-leb c 90 (omega arith))) (and_right _ _ (lt-leb c 122 (omega arith)))
run_ascii LettersOrDigits c le = or_from _ _ (or_from _ _ (and_right _ _ (lt-leb c 90 (omega arith))) (and_right _ _ (lt-leb c 122 (omega arith)))) (and_right _ _ (lt-leb c 57 (omega arith)))

-- the bytes of the character at a place
bytes_at : (text : List ℕ) (at c next : ℕ) → IsPlace text at → Reads text at c next → drop at text ≡ encode c ++ encodes (chars_from text next)
bytes_at text at c next p r = sym (encodes-chars (drop at text) p.utf8) ∙ ap encodes r.reads

run_stops : (run : Run) (text : List ℕ) (from upto c next : ℕ) → IsPlace text upto → Reads text upto c next → IsByteRun (class_byte (Alphanumeric run)) text from upto → run_class run c ≡ false
run_stops run text from upto c next p r bytes =
    ⊎_elim
    (λ small.
    let same : get_or text upto 0 ≡ c = sym (first_byte text upto) ∙ byte_from_char (drop upto text) (encodes (chars_from text next)) c (bytes_at text upto c next p r) small in
    sym (small_byte (Alphanumeric run) c small) ∙ (sym (ap (class_byte (Alphanumeric run)) same) ∙ bytes.stops (omega (arith, r.further, r.place.inside))))
    (λ big. run_ascii run c big)
    (cases_lt c 128)

ending_by : (text : List ℕ) (at : ℕ) (cs : List ℕ) → encodes cs ≡ drop at text → IsPlace text at → at < length text → (c : ℕ) × (next : ℕ) × Reads text at c next
ending_by text at [] e p lt = let none : length (drop at text) ≡ 0 = ap length (sym e) in absurd (omega (arith, none, length-drop at text))
ending_by text at (c ∷ cs) e p lt = (c, at + len_utf8 c, char_step text at c (encodes cs) p (sym e))

pub run_is : (run : Run) (text : List ℕ) (from upto : ℕ) → IsPlace text from → IsPlace text upto → IsByteRun (class_byte (Alphanumeric run)) text from upto → IsRun (run_class run) text from upto
run_is run text from upto p q bytes = record {
  place = q;
  further = bytes.further;
  stops = λ c next r. run_stops run text from upto c next q r bytes;
  ending = ⊎_elim (λ lt. inr (ending_by text upto q.utf8.0 q.utf8.1.1 q lt)) (λ le. inl (from_end text upto le)) (cases_lt upto (length text));
  carries =
      let P : ℕ → Type 0 = λ u. Carries (run_class run) text from u in
      walk (Alphanumeric run) text P from upto p bytes (λ a c next r s has h. run_more (run_class run) text from a c next r s has h) (λ rs loops found h. h);
}
