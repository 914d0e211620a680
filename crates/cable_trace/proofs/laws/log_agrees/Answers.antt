use Rattle.cable_trace.proofs.LogGrows.{log_fresh, log_stays, log_uses, log_draws}
use Rattle.cable_trace.proofs.laws.log_agrees.Goals as goal

pub returns-clause-begins : goal.returns-clause-begins
returns-clause-begins g c = λ ring. log_fresh ring

pub returns-clause-stays : goal.returns-clause-stays
returns-clause-stays g c = λ ring trace new log h d s t r l. log_stays ring trace new log h d s t r l

pub returns-clause-uses : goal.returns-clause-uses
returns-clause-uses g c = λ ring ticket trace action entry log h above t e. log_uses ring ticket trace entry action log h above t e

pub returns-clause-draws : goal.returns-clause-draws
returns-clause-draws g c = λ ring ticket trace action entry log h above t e. log_draws ring ticket trace entry action log h above t e
