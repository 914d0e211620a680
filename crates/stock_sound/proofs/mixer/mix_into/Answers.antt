use Rattle.std.proofs.Common.{◌<◌, length, arith}
use Rattle.stock_sound.proofs.Mixing.{mixed_more}
use Rattle.stock_sound.proofs.mixer.mix_into.Goals as goal

pub loop-frame-preserved : goal.loop-frame-preserved
loop-frame-preserved c =
    let frame = c.loop-frame.frame in
    let first : frame < length c.args.a.now = omega arith in
    let second : frame < length c.args.b.now = omega arith in
    let within : frame < length c.loop-frame.out = omega arith in
    mixed_more c.args.a.now c.args.b.now c.loop-frame.out frame _ _ c.mix_of_two.result first second within c.mix_of_two.ensures
    c.loop-frame.invariant
