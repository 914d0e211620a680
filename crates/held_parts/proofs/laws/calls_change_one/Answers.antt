use Rattle.held_parts.proofs.Changes.{call_changes_one, call_changes_none}
use Rattle.held_parts.proofs.laws.calls_change_one.Goals as goal

pub returns-clause-one : goal.returns-clause-one
returns-clause-one g c = call_changes_one

pub returns-clause-none : goal.returns-clause-none
returns-clause-none g c = call_changes_none
