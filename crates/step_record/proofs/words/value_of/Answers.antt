-- A digit more.
use Rattle.std.proofs.Common.{◌<◌, length, arith}
use Rattle.step_record.proofs.Numerals.{value_of-more}
use Rattle.step_record.proofs.words.value_of.Goals as goal

pub loop-digit-preserved : goal.loop-digit-preserved
loop-digit-preserved c =
    let i = c.loop-digit.digit-index in
    let within : i < length c.args.digits.now = omega arith in
    omega (arith, value_of-more c.args.digits.now i within)
