use Rattle.session_play.proofs.Values.{attempts_are_asked, notices_are_made}
use Rattle.session_play.proofs.laws.values_are_made.Goals as goal

pub returns-clause-attempts : goal.returns-clause-attempts
returns-clause-attempts g c = attempts_are_asked

pub returns-clause-notices : goal.returns-clause-notices
returns-clause-notices g c = notices_are_made
