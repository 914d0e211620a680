use Rattle.turtle_read.proofs.Stops.{gives_fault}
use Rattle.turtle_read.proofs.reader.Reader.new_node.Goals as goal

pub returns-in_err-may_open-clause-value : goal.returns-in_err-may_open-clause-value
returns-in_err-may_open-clause-value c =
    gives_fault _ c.from_residual.result c.in_err-may_open.field-0.0 _ c.from_residual.ensures.1 c.in_err-may_open.ensures
