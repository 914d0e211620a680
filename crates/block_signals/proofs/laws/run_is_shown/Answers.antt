use Rattle.block_signals.proofs.Ran.{not_run_is_quiet, run_is_shown}
use Rattle.block_signals.proofs.laws.run_is_shown.Goals as goal

pub returns-clause-quiet : goal.returns-clause-quiet
returns-clause-quiet c = not_run_is_quiet

pub returns-clause-shown : goal.returns-clause-shown
returns-clause-shown c = run_is_shown
