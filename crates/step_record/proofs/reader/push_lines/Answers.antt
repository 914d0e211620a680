-- One more line was read.
use Rattle.step_record.proofs.Lines.{AreRead-next, nonempty}
use Rattle.step_record.proofs.reader.push_lines.Goals as goal

pub loop-rest-preserved : goal.loop-rest-preserved
loop-rest-preserved c =
    AreRead-next c.args.lines.now c.loop-rest.steps c.loop-rest.rest.now c.in_ok-count.count c.push_next.new.steps
    (nonempty c.loop-rest.rest.now c.is_empty.result c.is_empty.ensures c.loop-rest-test.true) c.loop-rest.invariant c.in_ok-count.ensures.ok
