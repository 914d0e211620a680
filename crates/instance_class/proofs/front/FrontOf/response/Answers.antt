use Rattle.instance_class.proofs.Marked.{marks_call}
use Rattle.instance_class.proofs.front.FrontOf.response.Goals as goal

pub returns-clause-marks : goal.returns-clause-marks
returns-clause-marks g c = rw (← c.self.view_is) (marks_call _ _ _ _ _ _ _ _ c.requires c.begin.ensures c.end.ensures)
