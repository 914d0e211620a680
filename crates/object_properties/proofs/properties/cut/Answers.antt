use Rattle.object_properties.proofs.Within.{none_here, cut_here}
use Rattle.std.proofs.Common.{◌≡◌, ◌<◌, ◌≤◌, length, drop, ap, ◌∙◌, arith}
use Rattle.object_properties.proofs.properties.cut.Goals as goal

pub returns-then-bytes-lt16-clause-none : goal.returns-then-bytes-lt16-clause-none
returns-then-bytes-lt16-clause-none c = none_here c.args.bytes.now (omega (arith, c.if-bytes-lt16.true))

pub returns-clause-some : goal.returns-clause-some
returns-clause-some c = cut_here c.args.bytes.now _ _ _ _ _ _ (omega (arith, c.if-bytes-lt16.false)) c.u32_at.ensures c.u32_at-2.ensures c.u32_at-size.ensures c.after-atom.ensures c.front.ensures (c.after.ensures ∙ ap (λ n. drop n c.after-atom.result.now) c.padded.ensures)
