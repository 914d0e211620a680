use Rattle.host_main.proofs.Checks.{answers}
use Rattle.host_main.proofs.checking.run_check.Goals as goal

pub returns-clause-answers : goal.returns-clause-answers
returns-clause-answers g c = answers _ _ _ _ _ _ c.answer.ensures.explained c.answer.ensures.files
