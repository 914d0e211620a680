use Rattle.instance_class.proofs.Marked.{marks_call}
use Rattle.instance_class.proofs.made.Made.cleanup.Goals as goal

pub returns : goal.returns
returns g c = rw (← c.self.view_is) (marks_call _ _ _ _ _ _ _ _ c.requires c.begin.ensures c.end.ensures)
