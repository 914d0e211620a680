-- A text's parts make it a number by the same production as its characters do.
use Rattle.std.proofs.Math.Dec.{eqb-suc-zero}
use Rattle.std.proofs.Common.{◌≡◌, inl, inr, ℕ, ◌+◌, ◌<◌, ◌==◌, Bool, true, false, not, ◌&&◌, cond, List, [], ◌∷◌, ◌++◌, length, Option, Some, None, refl, sym, ap, subst, ◌∙◌, true≢false, eqb-true, arith, length-append}
use Rattle.std.specs.Prelude.{is_none}
use Rattle.std.specs.Char.{is_ascii_digit}
use Rattle.std.specs.List.{list_all}
use Rattle.std.proofs.lemmas.Bool.{and_parts, and_from}
use Rattle.std.proofs.lemmas.List.{append-nil, append_assoc}
use Rattle.std.proofs.lemmas.List.Folds.{list_all-append}
use Rattle.lv_base.specs.Decimal.{numeral_of, cut, after_sign, is_sign, is_dot, is_exponent_mark, are_digits, are_some_digits, or_empty, is_integer, is_decimal, is_double}
use Rattle.turtle_grammar.specs.Characters.{is_digit}
use Rattle.turtle_grammar.specs.Pattern.{Pattern, fails, one, ◌then◌, ◌or◌, many, char, Matches, matches, in_row, either}
use Rattle.turtle_grammar.specs.Terminals.{sign, digits, exponent, integer, decimal, double}
use Rattle.turtle_grammar.proofs.Derivatives.{sound, complete}
use Rattle.turtle_number.specs.Numbers.{IntegersAgree, DecimalsAgree, DoublesAgree}
use Rattle.turtle_number.proofs.Characters.{digit_same, sign_same, mark_same, digit_is_no_sign, digit_is_no_dot, digit_is_no_mark, digits_have_none}
use Rattle.turtle_number.proofs.Cuts.{same_bool, parts, cut_parts, without, at_first, Joins, parts_join}

-- ---- digits

no_text_fails : (text : List ℕ) → matches fails text ≡ false
no_text_fails [] = refl
no_text_fails (c ∷ text) = no_text_fails text

many_digits : (text : List ℕ) → matches (many (one is_digit)) text ≡ are_digits text
many_digits [] = refl
many_digits (c ∷ text) = by (is_digit c) (is_ascii_digit c) (digit_same c) (many_digits text)
  where
    by : (a b : Bool) → b ≡ a → matches (many (one is_digit)) text ≡ are_digits text
        → matches (in_row (cond a Pattern.nothing fails) (many (one is_digit))) text ≡ (b && are_digits text)
    by true true e rest = rest
    by false false e rest = no_text_fails text
    by true false e rest = absurd (true≢false (sym e))
    by false true e rest = absurd (true≢false e)

some_digits : (text : List ℕ) → matches digits text ≡ are_some_digits text
some_digits [] = refl
some_digits (c ∷ text) = by (is_digit c) (is_ascii_digit c) (digit_same c) (many_digits text) ∙ ap (λ b. not b && are_digits (c ∷ text)) (sym (eqb-suc-zero (length text)))
  where
    by : (a b : Bool) → b ≡ a → matches (many (one is_digit)) text ≡ are_digits text
        → matches (either (in_row (cond a Pattern.nothing fails) (many (one is_digit))) fails) text ≡ (b && are_digits text)
    by true true e rest = rest
    by false false e rest = no_text_fails text
    by true false e rest = absurd (true≢false (sym e))
    by false true e rest = absurd (true≢false e)

are_many : (text : List ℕ) → Matches (many (one is_digit)) text → are_digits text ≡ true
are_many text h = sym (many_digits text) ∙ complete (many (one is_digit)) text h

make_many : (text : List ℕ) → are_digits text ≡ true → Matches (many (one is_digit)) text
make_many text h = sound (many (one is_digit)) text (many_digits text ∙ h)

are_some : (text : List ℕ) → Matches digits text → are_some_digits text ≡ true
are_some text h = sym (some_digits text) ∙ complete digits text h

make_some : (text : List ℕ) → are_some_digits text ≡ true → Matches digits text
make_some text h = sound digits text (some_digits text ∙ h)

all_digits : (text : List ℕ) → are_some_digits text ≡ true → are_digits text ≡ true
all_digits text h = (and_parts (not (length text == 0)) (are_digits text) h).1

-- ---- signs

pub sign_off : (text : List ℕ) → (front : List ℕ) × Matches sign front × (text ≡ front ++ after_sign text)
sign_off [] = ([], inr refl, refl)
sign_off (c ∷ text) = by (is_sign c) refl
  where
    by : (b : Bool) → is_sign c ≡ b → (front : List ℕ) × Matches sign front × (c ∷ text ≡ front ++ cond b text (c ∷ text))
    by true is = (c ∷ [], inl (c, sym (sign_same c) ∙ is, refl), refl)
    by false other = ([], inr refl, refl)

abbrev unsigned : List ℕ → Bool
unsigned [] = true
unsigned (c ∷ text) = not (is_sign c)

unsigned_stays : (text : List ℕ) → unsigned text ≡ true → after_sign text ≡ text
unsigned_stays [] h = refl
unsigned_stays (c ∷ text) h = by (is_sign c) h
  where
    by : (b : Bool) → not b ≡ true → cond b text (c ∷ text) ≡ c ∷ text
    by true h = cc
    by false h = refl

sign_on : (front text : List ℕ) → Matches sign front → unsigned text ≡ true → after_sign (front ++ text) ≡ text
sign_on front text (inl h) none =
    ap (λ it. after_sign (it ++ text)) h.2 ∙ ap (λ b. cond b text (h.0 ∷ text)) (sign_same h.0 ∙ h.1)
sign_on front text (inr h) none = ap (λ it. after_sign (it ++ text)) h ∙ unsigned_stays text none

digits_unsigned : (text later : List ℕ) → are_digits text ≡ true → unsigned later ≡ true → unsigned (text ++ later) ≡ true
digits_unsigned [] later all none = none
digits_unsigned (c ∷ text) later all none = ap not (digit_is_no_sign c (and_parts (is_ascii_digit c) (are_digits text) all).0)

alone_unsigned : (text : List ℕ) → are_digits text ≡ true → unsigned text ≡ true
alone_unsigned text all = ap unsigned (sym (append-nil text)) ∙ digits_unsigned text [] all refl

-- ---- the parts of a text

module _ (test : List ℕ → Option (List ℕ) → Option (List ℕ) → Bool) where
  -- a test of what stands before the dot, after the dot and after the e
  abbrev tested : List ℕ → Bool
  tested number = test (cut is_dot (cut is_exponent_mark number).0).0 (cut is_dot (cut is_exponent_mark number).0).1 (cut is_exponent_mark number).1

  tests : (number front whole : List ℕ) (later fraction : Option (List ℕ)) → parts is_exponent_mark number ≡ (front, later) → parts is_dot front ≡ (whole, fraction)
      → tested number ≡ test whole fraction later
  tests number front whole later fraction e f =
      ap (λ (it : List ℕ × Option (List ℕ)). test (cut is_dot it.0).0 (cut is_dot it.0).1 it.1) (cut_parts is_exponent_mark number ∙ e)
      ∙ ap (λ (it : List ℕ × Option (List ℕ)). test it.0 it.1 later) (cut_parts is_dot front ∙ f)

-- ---- INTEGER

abbrev integer_test : List ℕ → Option (List ℕ) → Option (List ℕ) → Bool
integer_test whole fraction later = is_none later && (is_none fraction && are_some_digits whole)

integer_parts : (number front whole : List ℕ) (later fraction : Option (List ℕ)) → Joins is_exponent_mark number front later → Joins is_dot front whole fraction
    → integer_test whole fraction later ≡ true → are_some_digits number ≡ true
integer_parts number front whole None None e f h = ap are_some_digits (e ∙ f) ∙ h
integer_parts number front whole None (Some fraction) e f h = cc
integer_parts number front whole (Some later) fraction e f h = cc

pub integers_agree : IntegersAgree
unfolding integer
integers_agree text = same_bool (is_integer (numeral_of text)) (matches integer text) there back
  where
    number : List ℕ
    number = after_sign text

    there : is_integer (numeral_of text) ≡ true → matches integer text ≡ true
    there h =
        let n : List ℕ = after_sign text in
        let p = parts is_exponent_mark n in
        let q = parts is_dot (parts is_exponent_mark n).0 in
        let test = tests integer_test n (parts is_exponent_mark n).0 q.0 p.1 q.1 refl refl in
        let some = integer_parts n p.0 q.0 p.1 q.1 (parts_join is_exponent_mark n) (parts_join is_dot p.0) (sym test ∙ h) in
        let front = sign_off text in
        complete integer text (front.0, n, front.1, make_some n some, front.2)

    back : matches integer text ≡ true → is_integer (numeral_of text) ≡ true
    back h =
        let m = sound integer text h in
        let some : are_some_digits m.1 ≡ true = are_some m.1 m.3 in
        let all : are_digits m.1 ≡ true = all_digits m.1 some in
        let n : after_sign text ≡ m.1 = ap after_sign m.4 ∙ sign_on m.0 m.1 m.2 (alone_unsigned m.1 all) in
        ap (tested integer_test) n
        ∙ tests integer_test m.1 m.1 m.1 None None (without is_exponent_mark m.1 (digits_have_none is_exponent_mark digit_is_no_mark m.1 all)) (without is_dot m.1 (digits_have_none is_dot digit_is_no_dot m.1 all))
        ∙ some

-- ---- DECIMAL

abbrev decimal_test : List ℕ → Option (List ℕ) → Option (List ℕ) → Bool
decimal_test whole fraction later = is_none later && (are_digits whole && are_some_digits (or_empty fraction))

-- digits, a dot, and some digits
record WithDot (number : List ℕ) : Type 0 where
  whole : List ℕ
  dot : ℕ
  fraction : List ℕ
  is_whole : are_digits whole ≡ true
  is_point : is_dot dot ≡ true
  is_fraction : are_some_digits fraction ≡ true
  joined : number ≡ whole ++ dot ∷ fraction

decimal_parts : (number front whole : List ℕ) (later fraction : Option (List ℕ)) → Joins is_exponent_mark number front later → Joins is_dot front whole fraction
    → decimal_test whole fraction later ≡ true → WithDot number
decimal_parts number front whole (Some later) fraction e f h = cc
decimal_parts number front whole None None e f h = absurd (true≢false (sym (and_parts (are_digits whole) (are_some_digits []) h).1))
decimal_parts number front whole None (Some fraction) e f h =
    let both = and_parts (are_digits whole) (are_some_digits fraction) h in
    record { whole = whole; dot = f.0; fraction = fraction; is_whole = both.0; is_point = f.1; is_fraction = both.1; joined = e ∙ f.2 }

dot_unsigned : (dot : ℕ) (text : List ℕ) → is_dot dot ≡ true → unsigned (dot ∷ text) ≡ true
dot_unsigned dot text is = ap (λ c. unsigned (c ∷ text)) (eqb-true dot 46 is)

dot_is_no_mark : (dot : ℕ) → is_dot dot ≡ true → is_exponent_mark dot ≡ false
dot_is_no_mark dot is = ap is_exponent_mark (eqb-true dot 46 is)

-- no e stands in digits, a dot and digits
no_mark_around : (whole : List ℕ) (dot : ℕ) (fraction : List ℕ) → are_digits whole ≡ true → is_dot dot ≡ true → are_digits fraction ≡ true
    → list_all (λ c. not (is_exponent_mark c)) (whole ++ dot ∷ fraction) ≡ true
no_mark_around whole dot fraction all is more =
    list_all-append (λ c. not (is_exponent_mark c)) whole (dot ∷ fraction)
    ∙ and_from (list_all (λ c. not (is_exponent_mark c)) whole) (list_all (λ c. not (is_exponent_mark c)) (dot ∷ fraction))
    (digits_have_none is_exponent_mark digit_is_no_mark whole all)
    (ap (λ b. not b && list_all (λ c. not (is_exponent_mark c)) fraction) (dot_is_no_mark dot is) ∙ digits_have_none is_exponent_mark digit_is_no_mark fraction more)

-- a sign, digits, a dot and a rest, however they are joined
joined_so : (front whole : List ℕ) (dot : ℕ) (later : List ℕ) → ((front ++ whole) ++ dot ∷ []) ++ later ≡ front ++ (whole ++ dot ∷ later)
joined_so front whole dot later = append_assoc (front ++ whole) (dot ∷ []) later ∙ append_assoc front whole (dot ∷ later)

pub decimals_agree : DecimalsAgree
unfolding decimal
decimals_agree text = same_bool (is_decimal (numeral_of text)) (matches decimal text) there back
  where
    there : is_decimal (numeral_of text) ≡ true → matches decimal text ≡ true
    there h =
        let n : List ℕ = after_sign text in
        let p = parts is_exponent_mark n in
        let q = parts is_dot (parts is_exponent_mark n).0 in
        let test = tests decimal_test n (parts is_exponent_mark n).0 q.0 p.1 q.1 refl refl in
        let d : WithDot n = decimal_parts n p.0 q.0 p.1 q.1 (parts_join is_exponent_mark n) (parts_join is_dot p.0) (sym test ∙ h) in
        let front = sign_off text in
        complete decimal text (
          (front.0 ++ d.whole) ++ d.dot ∷ [],
          d.fraction,
          (front.0 ++ d.whole, d.dot ∷ [], (front.0, d.whole, front.1, make_many d.whole d.is_whole, refl), (d.dot, d.is_point, refl), refl),
          make_some d.fraction d.is_fraction,
          front.2 ∙ ap (λ it. front.0 ++ it) d.joined ∙ sym (joined_so front.0 d.whole d.dot d.fraction),
        )

    back : matches decimal text ≡ true → is_decimal (numeral_of text) ≡ true
    back h =
        let m = sound decimal text h in
        let fraction : List ℕ = m.1 in
        let signed = m.2.2 in
        let whole : List ℕ = signed.1 in
        let point = m.2.3 in
        let dot : ℕ = point.0 in
        let all : are_digits whole ≡ true = are_many whole signed.3 in
        let some : are_some_digits fraction ≡ true = are_some fraction m.3 in
        let joined : text ≡ signed.0 ++ (whole ++ dot ∷ fraction) =
        m.4 ∙ ap (λ it. it ++ fraction) (m.2.4 ∙ (λ i. signed.4 i ++ point.2 i)) ∙ joined_so signed.0 whole dot fraction in
        let n : after_sign text ≡ whole ++ dot ∷ fraction =
        ap after_sign joined ∙ sign_on signed.0 (whole ++ dot ∷ fraction) signed.2 (digits_unsigned whole (dot ∷ fraction) all (dot_unsigned dot fraction point.1)) in
        ap (tested decimal_test) n
        ∙ tests decimal_test (whole ++ dot ∷ fraction) (whole ++ dot ∷ fraction) whole None (Some fraction)
        (without is_exponent_mark (whole ++ dot ∷ fraction) (no_mark_around whole dot fraction all point.1 (all_digits fraction some)))
        (at_first is_dot whole dot fraction (digits_have_none is_dot digit_is_no_dot whole all) point.1)
        ∙ and_from (are_digits whole) (are_some_digits fraction) all some

-- ---- DOUBLE

abbrev double_test : List ℕ → Option (List ℕ) → Option (List ℕ) → Bool
double_test whole fraction later = are_some_digits (after_sign (or_empty later)) && are_some_digits (whole ++ or_empty fraction)

-- digits with a dot among them or without one, and a digit at least
abbrev IsMantissa : List ℕ → Type 0
IsMantissa text = are_some_digits ((parts is_dot text).0 ++ or_empty (parts is_dot text).1) ≡ true

-- a mantissa, an e, and some digits that may have a sign
record WithMark (number : List ℕ) : Type 0 where
  front : List ℕ
  mark : ℕ
  later : List ℕ
  is_front : IsMantissa front
  is_mark : is_exponent_mark mark ≡ true
  is_later : are_some_digits (after_sign later) ≡ true
  joined : number ≡ front ++ mark ∷ later

double_parts : (number front : List ℕ) (later : Option (List ℕ)) → Joins is_exponent_mark number front later
    → double_test (parts is_dot front).0 (parts is_dot front).1 later ≡ true → WithMark number
double_parts number front None e h =
    absurd (true≢false (sym (and_parts (are_some_digits []) (are_some_digits ((parts is_dot front).0 ++ or_empty (parts is_dot front).1)) h).0))
double_parts number front (Some later) e h =
    let both = and_parts (are_some_digits (after_sign later)) (are_some_digits ((parts is_dot front).0 ++ or_empty (parts is_dot front).1)) h in
    record { front = front; mark = e.0; later = later; is_front = both.1; is_mark = e.1; is_later = both.0; joined = e.2 }

-- digits around a dot are digits on each side
split_digits : (whole fraction : List ℕ) → are_digits (whole ++ fraction) ≡ true → (are_digits whole ≡ true) × (are_digits fraction ≡ true)
split_digits whole fraction h = and_parts (are_digits whole) (are_digits fraction) (sym (list_all-append is_ascii_digit whole fraction) ∙ h)

some_by : (text : List ℕ) → are_digits text ≡ true → 0 < length text → are_some_digits text ≡ true
some_by [] all some = absurd (omega arith)
some_by (c ∷ text) all some = ap (λ b. not b && are_digits (c ∷ text)) (eqb-suc-zero (length text)) ∙ all

-- no e stands in a mantissa
mantissa_unmarked : (text : List ℕ) → IsMantissa text → (list_all (λ c. not (is_exponent_mark c)) text ≡ true) × (unsigned text ≡ true)
mantissa_unmarked text h = by (parts is_dot text).0 (parts is_dot text).1 (parts_join is_dot text) h
  where
    by : (whole : List ℕ) (fraction : Option (List ℕ)) → Joins is_dot text whole fraction → are_some_digits (whole ++ or_empty fraction) ≡ true
        → (list_all (λ c. not (is_exponent_mark c)) text ≡ true) × (unsigned text ≡ true)
    by whole None e h =
        let all : are_digits whole ≡ true = ap are_digits (sym (append-nil whole)) ∙ all_digits (whole ++ []) h in
        (ap (list_all (λ c. not (is_exponent_mark c))) e ∙ digits_have_none is_exponent_mark digit_is_no_mark whole all, ap unsigned e ∙ alone_unsigned whole all)
    by whole (Some fraction) e h =
        let both = split_digits whole fraction (all_digits (whole ++ fraction) h) in (
          ap (list_all (λ c. not (is_exponent_mark c))) e.2 ∙ no_mark_around whole e.0 fraction both.0 e.1 both.1,
          ap unsigned e.2 ∙ digits_unsigned whole (e.0 ∷ fraction) both.0 (dot_unsigned e.0 fraction e.1),
        )

-- what the production says of a mantissa
abbrev before_mark : Pattern
before_mark = (digits then char 46 then many (one is_digit)) or (char 46 then digits) or digits

from_mantissa : (text : List ℕ) → IsMantissa text → Matches before_mark text
from_mantissa text h = by (parts is_dot text).0 (parts is_dot text).1 (parts_join is_dot text) h
  where
    by : (whole : List ℕ) (fraction : Option (List ℕ)) → Joins is_dot text whole fraction → are_some_digits (whole ++ or_empty fraction) ≡ true → Matches before_mark text
    by whole None e h = inr (subst (λ (it : List ℕ). Matches digits it) (sym e) (make_some whole (ap are_some_digits (sym (append-nil whole)) ∙ h)))
    by [] (Some fraction) e h = inl (inr (e.0 ∷ [], fraction, (e.0, e.1, refl), make_some fraction h, e.2))
    by (c ∷ whole) (Some fraction) e h =
        let both = split_digits (c ∷ whole) fraction (all_digits (c ∷ whole ++ fraction) h) in
        inl (inl (
          (c ∷ whole) ++ e.0 ∷ [],
          fraction,
          (c ∷ whole, e.0 ∷ [], make_some (c ∷ whole) (some_by (c ∷ whole) both.0 (omega arith)), (e.0, e.1, refl), refl),
          make_many fraction both.1,
          e.2 ∙ sym (append_assoc (c ∷ whole) (e.0 ∷ []) fraction),
        ))

-- digits on both sides of a dot, one of them at least
some_around : (whole fraction : List ℕ) → are_digits whole ≡ true → are_digits fraction ≡ true → 0 < length whole + length fraction → are_some_digits (whole ++ fraction) ≡ true
some_around whole fraction all more some =
    some_by (whole ++ fraction) (list_all-append is_ascii_digit whole fraction ∙ and_from (are_digits whole) (are_digits fraction) all more)
    (let long = length-append whole fraction in omega (arith, long, some))

some_length : (text : List ℕ) → are_some_digits text ≡ true → 0 < length text
some_length [] h = absurd (true≢false (sym h))
some_length (c ∷ text) h = omega arith

is_mantissa_by : (text whole : List ℕ) (fraction : Option (List ℕ)) → parts is_dot text ≡ (whole, fraction) → are_some_digits (whole ++ or_empty fraction) ≡ true → IsMantissa text
is_mantissa_by text whole fraction e h = ap (λ (it : List ℕ × Option (List ℕ)). are_some_digits (it.0 ++ or_empty it.1)) e ∙ h

to_mantissa : (text : List ℕ) → Matches before_mark text → IsMantissa text
to_mantissa text (inl (inl h)) =
    let whole : List ℕ = h.2.0 in
    let some = are_some h.2.0 h.2.2 in
    let more = are_many h.1 h.3 in
    let joined : text ≡ h.2.0 ++ h.2.3.0 ∷ h.1 = h.4 ∙ ap (λ it. it ++ h.1) (h.2.4 ∙ ap (λ it. h.2.0 ++ it) h.2.3.2) ∙ append_assoc h.2.0 (h.2.3.0 ∷ []) h.1 in
    is_mantissa_by text h.2.0 (Some h.1)
    (ap (parts is_dot) joined ∙ at_first is_dot h.2.0 h.2.3.0 h.1 (digits_have_none is_dot digit_is_no_dot h.2.0 (all_digits h.2.0 some)) h.2.3.1)
    (some_around h.2.0 h.1 (all_digits h.2.0 some) more (let long = some_length h.2.0 some in omega (arith, long)))
to_mantissa text (inl (inr h)) =
    let some = are_some h.1 h.3 in
    is_mantissa_by text [] (Some h.1) (ap (parts is_dot) (h.4 ∙ ap (λ it. it ++ h.1) h.2.2) ∙ at_first is_dot [] h.2.0 h.1 refl h.2.1) some
to_mantissa text (inr h) =
    let some = are_some text h in
    is_mantissa_by text text None (without is_dot text (digits_have_none is_dot digit_is_no_dot text (all_digits text some))) (ap are_some_digits (append-nil text) ∙ some)

-- an exponent: its letter, a sign or none, and some digits
exponent_to : (mark : ℕ) (later : List ℕ) → is_exponent_mark mark ≡ true → are_some_digits (after_sign later) ≡ true → Matches exponent (mark ∷ later)
exponent_to mark later is some =
    let front = sign_off later in
    (mark ∷ front.0, after_sign later, (mark ∷ [], front.0, (mark, sym (mark_same mark) ∙ is, refl), front.1, refl), make_some (after_sign later) some, ap (λ it. mark ∷ it) front.2)

record Exponent (text : List ℕ) : Type 0 where
  mark : ℕ
  later : List ℕ
  is_mark : is_exponent_mark mark ≡ true
  is_later : are_some_digits (after_sign later) ≡ true
  joined : text ≡ mark ∷ later

exponent_from : (text : List ℕ) → Matches exponent text → Exponent text
exponent_from text h =
    let some = are_some h.1 h.3 in
    record {
      mark = h.2.2.0;
      later = h.2.1 ++ h.1;
      is_mark = mark_same h.2.2.0 ∙ h.2.2.1;
      is_later = ap are_some_digits (sign_on h.2.1 h.1 h.2.3 (alone_unsigned h.1 (all_digits h.1 some))) ∙ some;
      joined = h.4 ∙ ap (λ it. it ++ h.1) (h.2.4 ∙ ap (λ it. it ++ h.2.1) h.2.2.2);
    }

-- the production as a mantissa and an exponent
abbrev after_the_sign : Pattern
after_the_sign = (digits then char 46 then many (one is_digit) then exponent) or (char 46 then digits then exponent) or (digits then exponent)

to_halves : (text : List ℕ) → Matches after_the_sign text → (front : List ℕ) × (back : List ℕ) × Matches before_mark front × Matches exponent back × (text ≡ front ++ back)
to_halves text (inl (inl h)) = (h.0, h.1, inl (inl h.2), h.3, h.4)
to_halves text (inl (inr h)) = (h.0, h.1, inl (inr h.2), h.3, h.4)
to_halves text (inr h) = (h.0, h.1, inr h.2, h.3, h.4)

from_halves : (text front back : List ℕ) → Matches before_mark front → Matches exponent back → text ≡ front ++ back → Matches after_the_sign text
from_halves text front back (inl (inl m)) x e = inl (inl (front, back, m, x, e))
from_halves text front back (inl (inr m)) x e = inl (inr (front, back, m, x, e))
from_halves text front back (inr m) x e = inr (front, back, m, x, e)

mantissa_some : (text : List ℕ) → IsMantissa text → 0 < length text
mantissa_some [] h = absurd (true≢false (sym h))
mantissa_some (c ∷ text) h = omega arith

unsigned_more : (text later : List ℕ) → unsigned text ≡ true → 0 < length text → unsigned (text ++ later) ≡ true
unsigned_more [] later none some = absurd (omega arith)
unsigned_more (c ∷ text) later none some = none

double_back : (text front number : List ℕ) → Matches sign front → text ≡ front ++ number → Matches after_the_sign number → is_double (numeral_of text) ≡ true
double_back text front number s e m =
    let h = to_halves number m in
    let x : Exponent h.1 = exponent_from h.1 h.3 in
    let is : IsMantissa h.0 = to_mantissa h.0 h.2 in
    let clean = mantissa_unmarked h.0 is in
    let joined : number ≡ h.0 ++ x.mark ∷ x.later = h.4 ∙ ap (λ it. h.0 ++ it) x.joined in
    let free : unsigned number ≡ true = ap unsigned joined ∙ unsigned_more h.0 (x.mark ∷ x.later) clean.1 (mantissa_some h.0 is) in
    ap (tested double_test) (ap after_sign e ∙ sign_on front number s free ∙ joined)
    ∙ tests double_test (h.0 ++ x.mark ∷ x.later) h.0 (parts is_dot h.0).0 (Some x.later) (parts is_dot h.0).1 (at_first is_exponent_mark h.0 x.mark x.later clean.0 x.is_mark) refl
    ∙ and_from (are_some_digits (after_sign x.later)) (are_some_digits ((parts is_dot h.0).0 ++ or_empty (parts is_dot h.0).1)) x.is_later is

pub doubles_agree : DoublesAgree
unfolding double
doubles_agree text = same_bool (is_double (numeral_of text)) (matches double text) there back
  where
    there : is_double (numeral_of text) ≡ true → matches double text ≡ true
    there h =
        let n : List ℕ = after_sign text in
        let p = parts is_exponent_mark n in
        let q = parts is_dot (parts is_exponent_mark n).0 in
        let test = tests double_test n (parts is_exponent_mark n).0 q.0 p.1 q.1 refl refl in
        let d : WithMark n = double_parts n p.0 p.1 (parts_join is_exponent_mark n) (sym test ∙ h) in
        let front = sign_off text in
        complete double text
        (front.0, n, front.1, from_halves n d.front (d.mark ∷ d.later) (from_mantissa d.front d.is_front) (exponent_to d.mark d.later d.is_mark d.is_later) d.joined, front.2)

    back : matches double text ≡ true → is_double (numeral_of text) ≡ true
    back h = let m = sound double text h in double_back text m.0 m.1 m.2 m.4 m.3
