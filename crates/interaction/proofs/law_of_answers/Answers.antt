use Rattle.interaction.proofs.Law.{attempts_before, result_given}
use Rattle.interaction.proofs.law_of_answers.Goals as goal

pub returns-clause-attempts : goal.returns-clause-attempts
returns-clause-attempts g c = attempts_before

pub returns-clause-result : goal.returns-clause-result
returns-clause-result g c = result_given
