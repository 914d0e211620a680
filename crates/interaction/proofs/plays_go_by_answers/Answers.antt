use Rattle.interaction.proofs.Law.{answers_have_a_play, plays_by_answers}
use Rattle.interaction.proofs.plays_go_by_answers.Goals as goal

pub returns-clause-some : goal.returns-clause-some
returns-clause-some g c = answers_have_a_play

pub returns-clause-only : goal.returns-clause-only
returns-clause-only g c = plays_by_answers
