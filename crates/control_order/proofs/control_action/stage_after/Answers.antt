use Rattle.std.proofs.Common.{ℕ, ◌∙◌, sym}
use Rattle.record_law.specs.declared.shape.Shape.{Shape}
use Rattle.record_terms.specs.Message.{meaning_of}
use Rattle.control_order.proofs.ControlTasks.{front_stays}
use Rattle.control_order.proofs.control_action.stage_after.Goals as goal

pub returns-in-None-clause-left : goal.returns-in-None-clause-left
returns-in-None-clause-left c = λ (s : Shape) (k : ℕ). front_stays s k c.args.stage (meaning_of c.args.brought) (sym c.front_come.ensures ∙ c.in-None.is)
