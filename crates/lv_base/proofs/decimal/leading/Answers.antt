use Rattle.lv_base.proofs.Fronts.{leading_parts}
use Rattle.lv_base.proofs.decimal.leading.Goals as goal

pub returns : goal.returns
returns c = leading_parts c.args.whole.now c.args.fraction.now c.args.keep _ _ _ _ _ c.min-of_whole.ensures c.min-of_fraction.ensures c.with_digits.ensures c.with_digits-number.ensures c.with_zeros.ensures
