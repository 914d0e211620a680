use Rattle.turtle_number.proofs.Productions.{integers_agree, decimals_agree, doubles_agree}
use Rattle.turtle_number.proofs.numbers.numbers_agree.Goals as goal

pub returns-clause-integers : goal.returns-clause-integers
returns-clause-integers c = integers_agree

pub returns-clause-decimals : goal.returns-clause-decimals
returns-clause-decimals c = decimals_agree

pub returns-clause-doubles : goal.returns-clause-doubles
returns-clause-doubles c = doubles_agree
