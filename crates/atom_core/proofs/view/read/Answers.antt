use Rattle.std.proofs.Common.{Err, ap}
use Rattle.atom_core.proofs.OneAnswer.{no_fault, one_fault}
use Rattle.atom_core.proofs.view.read.Goals as goal

pub returns-in-Ok-clause-exact : goal.returns-in-Ok-clause-exact
returns-in-Ok-clause-exact c = λ fault wrong.
    let atom = c.in-Ok.ensures in
    absurd (no_fault c.args.bytes.now atom.0 fault atom.1 wrong)

pub returns-in-Err-clause-only : goal.returns-in-Err-clause-only
returns-in-Err-clause-only c = λ v spells. absurd (no_fault c.args.bytes.now v c.in-Err.fault spells c.in-Err.ensures)

pub returns-in-Err-clause-exact : goal.returns-in-Err-clause-exact
returns-in-Err-clause-exact c = λ fault wrong. ap (λ f. Err f) (one_fault c.args.bytes.now c.in-Err.fault fault c.in-Err.ensures wrong)
