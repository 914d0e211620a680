use Rattle.host_main.proofs.Answers.{answers}
use Rattle.host_main.proofs.rendering.run_render.Goals as goal

pub returns-clause-answers : goal.returns-clause-answers
returns-clause-answers g c = answers _ _ _ _ _ _ _ _ c.answer.ensures.explained
