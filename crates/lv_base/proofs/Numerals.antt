-- The answer for the parts of a text.
use Rattle.std.proofs.Common.{◌≡◌, ℕ, Bool, true, List, [], Option, Some, None, unwrap_or, refl, sym, ap, ◌∙◌, Bor, cond, Err, position}
use Rattle.std.specs.Option.{option_copied}
use Rattle.std.proofs.lemmas.Bool.{cond-true}
use Rattle.lv_base.specs.Decimal.{Numeral, numeral_of, is_negative, after_sign, is_exponent_mark, is_dot, cut, cut_at, is_number, fixed_of, in_range, signed, parts_of, units_of, or_empty}
use Rattle.lv_base.specs.Leading.{capped}
use Rattle.lv_base.specs.declared.decimal.NumFault.TheVariants.{NotNumber}
use Rattle.lv_base.proofs.Caps.{in_range-capped}

-- a numeral of these parts
abbrev pub numeral : Bool → List ℕ → Option (List ℕ) → Option (List ℕ) → Numeral
numeral negative whole fraction exponent = record { negative = negative; whole = whole; fraction = fraction; exponent = exponent }

-- a part that may be missing, after a reference
pub or_empty-copied : (part : Option (Bor (List ℕ))) (none : Bor (List ℕ)) → none.now ≡ [] → (unwrap_or part none).now ≡ or_empty (option_copied part)
or_empty-copied None none e = e
or_empty-copied (Some text) none e = refl

-- the parts that were cut one after another are those of the text
pub numeral_is : (text number mantissa whole : List ℕ) (fraction exponent : Option (List ℕ)) (negative : Bool) (letter dot : Option ℕ)
    → negative ≡ is_negative text → number ≡ after_sign text → letter ≡ position is_exponent_mark number → dot ≡ position is_dot mantissa
    → mantissa ≡ (cut_at number letter).0 → exponent ≡ (cut_at number letter).1
    → whole ≡ (cut_at mantissa dot).0 → fraction ≡ (cut_at mantissa dot).1
    → numeral negative whole fraction exponent ≡ numeral_of text
numeral_is text number mantissa whole fraction exponent negative letter dot n u l d before after left right =
    let cut_number : cut_at number letter ≡ cut is_exponent_mark (after_sign text) = ap (cut_at number) l ∙ ap (cut is_exponent_mark) u in
    let here : mantissa ≡ (cut is_exponent_mark (after_sign text)).0 = before ∙ ap (λ p. p.0) cut_number in
    let cut_mantissa : cut_at mantissa dot ≡ cut is_dot (cut is_exponent_mark (after_sign text)).0 = ap (cut_at mantissa) d ∙ ap (cut is_dot) here in
    ap (λ x. numeral x whole fraction exponent) n
    ∙ ap (λ x. numeral (is_negative text) x fraction exponent) (left ∙ ap (λ p. p.0) cut_mantissa)
    ∙ ap (λ x. numeral (is_negative text) (cut is_dot (cut is_exponent_mark (after_sign text)).0).0 x exponent) (right ∙ ap (λ p. p.1) cut_mantissa)
    ∙ ap (λ x. numeral (is_negative text) (cut is_dot (cut is_exponent_mark (after_sign text)).0).0 (cut is_dot (cut is_exponent_mark (after_sign text)).0).1 x) (after ∙ ap (λ p. p.1) cut_number)

-- the answer by capped units is the answer for a text that is a number
pub fixed_is : (text : List ℕ) (n : Numeral) → n ≡ numeral_of text → is_number n ≡ true
    → in_range (signed n.negative (parts_of (capped (units_of n.whole (or_empty n.fraction) (or_empty n.exponent))))) ≡ fixed_of text
unfolding fixed_of
fixed_is text n same number =
    in_range-capped n.negative (units_of n.whole (or_empty n.fraction) (or_empty n.exponent))
    ∙ sym (cond-true (is_number n) (in_range (signed n.negative (parts_of (units_of n.whole (or_empty n.fraction) (or_empty n.exponent))))) (Err NotNumber) number)
    ∙ ap (λ (m : Numeral). cond (is_number m) (in_range (signed m.negative (parts_of (units_of m.whole (or_empty m.fraction) (or_empty m.exponent))))) (Err NotNumber)) same
