use Rattle.record_counts.specs.Step.{step_of}
use Rattle.record_counts.proofs.CallLaws.{passed}
use Rattle.record_counts.proofs.calls.OpenCalls.go_on.Goals as goal

pub returns-in-Begin : goal.returns-in-Begin
returns-in-Begin c shape h about form keeps told = c.begin.ensures shape h about c.in-Begin.is form keeps told

pub returns-in-End : goal.returns-in-End
returns-in-End c shape h about form keeps told = c.end.ensures shape h about c.in-End.is form keeps told

pub returns-in_default : goal.returns-in_default
returns-in_default c shape h about form keeps told = passed shape h (step_of c.args.entry about) c.args.self.now told c.in_default.not-Begin c.in_default.not-End
