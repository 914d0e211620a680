use Rattle.record_law.proofs.Verdicts.{has_one_violation, lawful_has_none}
use Rattle.record_law.proofs.laws.one_judgement.Goals as goal

pub returns-clause-one : goal.returns-clause-one
returns-clause-one c = has_one_violation

pub returns-clause-none : goal.returns-clause-none
returns-clause-none c = lawful_has_none
