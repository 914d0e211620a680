use Rattle.session_play.proofs.Verdicts.{has_some_verdict, verdict_is_lawful, verdict_is_first}
use Rattle.session_play.proofs.laws.some_verdict.Goals as goal

pub returns-clause-some : goal.returns-clause-some
returns-clause-some g c = has_some_verdict

pub returns-clause-lawful : goal.returns-clause-lawful
returns-clause-lawful g c = verdict_is_lawful

pub returns-clause-first : goal.returns-clause-first
returns-clause-first g c = verdict_is_first
