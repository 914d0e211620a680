use Rattle.std.proofs.Common.{rules}
use Rattle.session_script.proofs.Playing.{playable}
use Rattle.session_script.proofs.later.first_later.Goals as goal

pub returns-in_err-before-clause-playable : goal.returns-in_err-before-clause-playable
returns-in_err-before-clause-playable c = λ _. playable c.args.bytes.now c.args.session.now c.requires.session (search rules)
