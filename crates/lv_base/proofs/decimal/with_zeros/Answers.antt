use Rattle.std.proofs.Common.{◌≡◌, ◌*◌, ◌^◌, min, ap, ◌∙◌, arith}
use Rattle.lv_base.specs.Leading.{capped}
use Rattle.lv_base.proofs.Caps.{capped_zeros}
use Rattle.lv_base.proofs.decimal.with_zeros.Goals as goal

pub returns : goal.returns
returns c =
    let all : c.loop.counter ≡ min c.args.zeros 30 = omega arith in
    c.loop.invariant ∙ ap (λ n. capped (c.args.start * 10 ^ n)) all ∙ capped_zeros c.args.start c.args.zeros
