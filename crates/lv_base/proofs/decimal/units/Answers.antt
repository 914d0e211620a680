use Rattle.std.proofs.Common.{◌++◌, ap, ◌∙◌, arith}
use Rattle.lv_base.specs.Leading.{capped, leading}
use Rattle.lv_base.proofs.Scales.{units_capped}
use Rattle.lv_base.proofs.decimal.units.Goals as goal

pub returns : goal.returns
returns c =
    let whole = c.args.whole.now in
    let fraction = c.args.fraction.now in
    c.leading.ensures
    ∙ ap (λ keep. capped (leading keep (whole ++ fraction))) c.kept.ensures
    ∙ units_capped whole fraction c.args.exponent.now _ c.requires.whole_digits c.requires.fraction_digits (omega arith)
