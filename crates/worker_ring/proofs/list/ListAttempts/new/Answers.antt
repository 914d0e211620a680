-- There is room for two entries more than the 16 attempts may have.
use Rattle.std.proofs.Common.{arith}
use Rattle.worker_ring.proofs.Calls.{can_call}
use Rattle.worker_ring.proofs.list.ListAttempts.new.Goals.{then-works, else-works}
use Rattle.worker_ring.proofs.list.ListAttempts.new.Goals as goal

pub returns-clause-call : goal.returns-clause-call
returns-clause-call g c =
    elim c.if-works.branch [
      | then-works w ↦ can_call _ (omega (arith, w.result-is, c.requires.tickets)) (omega (arith, w.result-is, c.requires.spare))
      | else-works w ↦ can_call _ (omega (arith, w.result-is, c.requires.tickets)) (omega (arith, w.result-is, c.requires.spare))
    ]
