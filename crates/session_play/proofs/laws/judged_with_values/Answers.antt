use Rattle.session_play.proofs.Judged.{is_lawful_or_broken, is_broken_once, is_lawful_only}
use Rattle.session_play.proofs.laws.judged_with_values.Goals as goal

pub returns-clause-some : goal.returns-clause-some
returns-clause-some g c = is_lawful_or_broken

pub returns-clause-one : goal.returns-clause-one
returns-clause-one g c = is_broken_once

pub returns-clause-none : goal.returns-clause-none
returns-clause-none g c = is_lawful_only
