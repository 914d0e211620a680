use Rattle.record_counts.specs.Step.{step_of}
use Rattle.record_counts.proofs.CallLaws.{begins}
use Rattle.record_counts.proofs.calls.OpenCalls.begin.Goals as goal

pub returns-in-Some : goal.returns-in-Some
returns-in-Some c shape h about kind form keeps told =
    rw c.put.ensures
    (begins shape h (step_of c.args.entry about) c.args.self.now told c.of-calls.result c.of-calls.ensures c.in-Some.call c.in-Some.ensures.number c.with.result kind keeps c.with.ensures)
