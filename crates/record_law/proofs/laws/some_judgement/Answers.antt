use Rattle.record_law.proofs.Verdicts.{has_some_verdict, verdict_is_lawful, verdict_is_first}
use Rattle.record_law.proofs.laws.some_judgement.Goals as goal

pub returns-clause-some : goal.returns-clause-some
returns-clause-some c = has_some_verdict

pub returns-clause-lawful : goal.returns-clause-lawful
returns-clause-lawful c = verdict_is_lawful

pub returns-clause-first : goal.returns-clause-first
returns-clause-first c = verdict_is_first
