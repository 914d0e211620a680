use Rattle.host_main.proofs.Checks.{explained}
use Rattle.host_main.proofs.GoesOn.{sink_then}
use Rattle.host_main.proofs.checking.answer.Goals as goal

pub returns-in-Err-clause-explained : goal.returns-in-Err-clause-explained
returns-in-Err-clause-explained g c =
    let sink = g.K.Sink.state in
    explained _ _ _ (sink c.args.out.now) (sink c.check_to.new.out) (sink c.say.new.out) c.in-Err.refusal _
    c.status.ensures c.in-Err.ensures.err c.in-Err.ensures.quiet c.say.ensures.said c.say.ensures.goes_on.faults

pub returns-in-Err-clause-sink : goal.returns-in-Err-clause-sink
returns-in-Err-clause-sink g c = sink_then _ _ _ c.in-Err.ensures.sink c.say.ensures.goes_on
