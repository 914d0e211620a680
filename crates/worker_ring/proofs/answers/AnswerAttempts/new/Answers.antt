-- There is room for two entries more than the answers may have.
use Rattle.std.proofs.Common.{arith}
use Rattle.worker_ring.proofs.AnswerRooms.{can_call}
use Rattle.worker_ring.proofs.answers.AnswerAttempts.new.Goals as goal

pub returns-clause-call : goal.returns-clause-call
returns-clause-call g c = can_call _ (omega (arith, c.requires.few, c.requires.tickets)) (omega (arith, c.requires.few, c.requires.spare))
