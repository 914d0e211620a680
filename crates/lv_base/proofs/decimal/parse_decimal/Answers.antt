use Rattle.std.proofs.Common.{◌≡◌, true, refl, ap, ◌∙◌, rules}
use Rattle.std.specs.Option.{option_copied}
use Rattle.lv_base.specs.Decimal.{Numeral, numeral_of, is_number, in_range, signed, parts_of, units_of, or_empty}
use Rattle.lv_base.specs.Leading.{capped}
use Rattle.lv_base.proofs.Numerals.{numeral, numeral_is, fixed_is, or_empty-copied}
use Rattle.lv_base.proofs.decimal.parse_decimal.Goals as goal

pub returns : goal.returns
returns c =
    let negative = c.split_sign-negative.result.0 in
    let whole = c.cut-2.result.0.now in
    let n : Numeral = numeral negative whole (option_copied c.cut-2.result.1) (option_copied c.cut.result.1) in
    let same : n ≡ numeral_of c.args.text.now =
    numeral_is c.args.text.now c.split_sign-negative.result.1.now c.cut.result.0.now whole _ _ _ _ _ c.split_sign-negative.ensures.negative c.split_sign-negative.ensures.rest c.exponent_place.ensures c.dot_place.ensures
    c.cut.ensures.before c.cut.ensures.after c.cut-2.ensures.before c.cut-2.ensures.after in
    let is : is_number n ≡ true = search rules in
    let fraction : c.unwrap_or.result.now ≡ or_empty n.fraction = ap (λ r. r.now) c.unwrap_or.ensures ∙ or_empty-copied c.cut-2.result.1 _ refl in
    let exponent : c.unwrap_or-2.result.now ≡ or_empty n.exponent = ap (λ r. r.now) c.unwrap_or-2.ensures ∙ or_empty-copied c.cut.result.1 _ refl in
    c.fixed.ensures
    ∙ ap (λ parts. in_range (signed negative parts)) (c.parts.ensures ∙ ap parts_of c.units-units.ensures)
    ∙ ap (λ f. in_range (signed negative (parts_of (capped (units_of whole f c.unwrap_or-2.result.now))))) fraction
    ∙ ap (λ e. in_range (signed negative (parts_of (capped (units_of whole (or_empty n.fraction) e))))) exponent
    ∙ fixed_is c.args.text.now n same is
