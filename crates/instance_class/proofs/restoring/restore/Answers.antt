use Rattle.instance_class.proofs.Marked.{marks_call}
use Rattle.instance_class.proofs.restoring.restore.Goals as goal

pub returns-clause-marks : goal.returns-clause-marks
returns-clause-marks g c = rw (← c.inst-inst.ensures) (marks_call _ _ _ _ _ _ _ _ c.requires.marks c.begin.ensures c.end.ensures)
