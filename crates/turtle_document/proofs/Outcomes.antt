-- Every byte string is a document or has a first fault.
use Rattle.std.proofs.Common.{◌≡◌, ℕ, ◌+◌, ◌≤◌, Bool, true, false, cond, List, [], ◌∷◌, length, take, drop, IsUtf8, refl, ap, sym, subst, ◌∙◌, true≢false, arith}
use Rattle.std.specs.Prelude.{nat_eq}
use Rattle.std.specs.List.{starts_with}
use Rattle.std.specs.Str.{chars, is_utf8}
use Rattle.std.specs.Str.Lossy.{utf8_valid_len}
use Rattle.std.proofs.lemmas.Bool.{eqb-true}
use Rattle.std.proofs.lemmas.Str.{IsUtf8-from_is_utf8, is_utf8-from_IsUtf8}
use lib.Utf8.{encode}
use Rattle.triple_store.specs.declared.term.Triple.{Triple}
use Rattle.turtle_grammar.specs.Tokens.{bytes_of, start_of}
use Rattle.turtle_grammar.proofs.SomeAnswer.{some_reading}
use Rattle.turtle_grammar.proofs.Spans.{Cut, cut}
use Rattle.turtle_document.specs.Answer.{Outcome, IsReadAs, HasSomeOutcome}
use Rattle.turtle_document.specs.Answer.Outcome.{not_utf8}
use Rattle.turtle_document.specs.Meaning.{beginning}
use Rattle.turtle_document.proofs.SomeOutcome.{some_outcome}

-- ---- where a text begins

abbrev three_if : Bool → ℕ
three_if b = cond b 3 0

mark_bytes : bytes_of (0xFEFF ∷ []) ≡ 3
unfolding encode
mark_bytes = refl

-- a place of a text
abbrev pub IsPlace : List ℕ → ℕ → Type 0
IsPlace text at = (at ≤ length text) × IsUtf8 (drop at text)

after_mark : (text : List ℕ) → IsUtf8 text → take 1 (chars text) ≡ 0xFEFF ∷ [] → IsPlace text 3
after_mark text utf8 e =
    let c : Cut text 0 1 = cut text 0 1 (omega arith) utf8 in
    let three : bytes_of (take 1 (chars text)) ≡ 3 = ap bytes_of e ∙ mark_bytes in
    let three_on : 0 + bytes_of (take 1 (chars text)) ≡ 3 = omega arith in
    subst (λ (n : ℕ). IsPlace text n) three_on (c.within, c.utf8)

first_is : (c : ℕ) (cs : List ℕ) (b : Bool) → nat_eq 0xFEFF c ≡ b → starts_with nat_eq (c ∷ cs) (0xFEFF ∷ []) ≡ true → 0xFEFF ≡ c
first_is c cs true q e = eqb-true 0xFEFF c q
first_is c cs false q e =
    let none : starts_with nat_eq (c ∷ cs) (0xFEFF ∷ []) ≡ false = rw q refl in absurd (true≢false (sym e ∙ none))

place_if : (text : List ℕ) → IsUtf8 text → (cs : List ℕ) → take 1 (chars text) ≡ take 1 cs → (b : Bool) → starts_with nat_eq cs (0xFEFF ∷ []) ≡ b → IsPlace text (three_if b)
place_if text utf8 cs same false e = (omega arith, utf8)
place_if text utf8 [] same true e = cc
place_if text utf8 (c ∷ cs) same true e = after_mark text utf8 (same ∙ ap (λ x. x ∷ []) (sym (first_is c cs (nat_eq 0xFEFF c) refl e)))

pub start_place : (text : List ℕ) → IsUtf8 text → IsPlace text (start_of text)
start_place text utf8 = place_if text utf8 (chars text) refl (starts_with nat_eq (chars text) (0xFEFF ∷ [])) refl

-- ---- its outcome

of_text : (base : List ℕ) (rows : List Triple) (bytes : List ℕ) → IsUtf8 bytes → (o : Outcome) × IsReadAs (beginning base rows) bytes o
of_text base rows bytes utf8 =
    let start = start_place bytes utf8 in
    let reading = some_reading bytes (start_of bytes) start.0 start.1 in
    some_outcome base rows bytes reading.0 reading.1 (utf8, reading.2)

by_utf8 : (base : List ℕ) (rows : List Triple) (bytes : List ℕ) (b : Bool) → is_utf8 bytes ≡ b → (o : Outcome) × IsReadAs (beginning base rows) bytes o
by_utf8 base rows bytes true e = of_text base rows bytes (IsUtf8-from_is_utf8 bytes e)
by_utf8 base rows bytes false e =
    (not_utf8 (utf8_valid_len bytes), ((λ utf8. true≢false (sym (is_utf8-from_IsUtf8 bytes utf8) ∙ e)), refl))

pub every_outcome : HasSomeOutcome
every_outcome base rows bytes = by_utf8 base rows bytes (is_utf8 bytes) refl
