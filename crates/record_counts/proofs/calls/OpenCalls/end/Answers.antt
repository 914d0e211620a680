use Rattle.record_counts.specs.Step.{step_of}
use Rattle.record_counts.proofs.CallLaws.{ends}
use Rattle.record_counts.proofs.calls.OpenCalls.end.Goals as goal

pub returns-in-Some : goal.returns-in-Some
returns-in-Some c shape h about kind form keeps told =
    rw c.put.ensures
    (ends shape h (step_of c.args.entry about) c.args.self.now told c.of-calls.result c.of-calls.ensures c.in-Some.call c.in-Some.ensures.number c.without.result kind c.without.ensures.same c.without.ensures.apart)
