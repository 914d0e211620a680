use Rattle.session_play.proofs.Verdicts.{has_one_violation, lawful_has_none}
use Rattle.session_play.proofs.laws.one_verdict.Goals as goal

pub returns-clause-one : goal.returns-clause-one
returns-clause-one g c = has_one_violation

pub returns-clause-none : goal.returns-clause-none
returns-clause-none g c = lawful_has_none
