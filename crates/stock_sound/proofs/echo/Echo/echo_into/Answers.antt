use Rattle.std.proofs.Common.{◌<◌, length, arith}
use Rattle.stock_sound.specs.Echo.{echoed, past_after}
use Rattle.stock_sound.proofs.Echoing.{echoed_on, past_on}
use Rattle.stock_sound.proofs.echo.Echo.echo_into.Goals as goal

pub loop-frame-preserved : goal.loop-frame-preserved
loop-frame-preserved c =
    let feedback = c.args.feedback in
    let signal = c.args.input.now in
    let frame = c.loop-frame.frame in
    let first : frame < length signal = omega arith in
    let within : frame < length c.loop-frame.out = omega arith in
    record {
      sound = echoed_on feedback c.loop-frame.self signal c.loop-frame.out (echoed feedback c.args.self.now signal) frame _ c.step.result
          c.step.new.self first within c.step.ensures.sample c.step.ensures.past c.loop-frame.invariant.sound;
      past = past_on feedback c.loop-frame.self signal (past_after feedback c.args.self.now signal) frame _ c.step.result c.step.new.self first
          c.step.ensures.sample c.step.ensures.past c.loop-frame.invariant.past;
    }
