-- What an entry of a worker makes of the tasks of a stage.
use Rattle.std.proofs.Common.{◌≡◌, ℕ, Bool, true, false, Option, sym, ap}
use Rattle.record_law.specs.declared.shape.Shape.{Shape}
use Rattle.record_terms.specs.declared.message.Message.{Message}
use Rattle.worker_order.specs.declared.worker_stage.WorkerStage.{WorkerStage}
use Rattle.worker_order.specs.declared.worker_stage.WorkerStep.{WorkerStep}
use Rattle.record_terms.specs.Message.{meaning_of}
use Rattle.worker_order.specs.Worker.{worker_left, worker_follows, worker_goes}
use Rattle.order_base.proofs.Follow.{made}

-- the stage after an entry that is the one that is wanted
pub made_goes : (s : Shape) (worker : ℕ) (b : Bool) (about : Message) (stage : WorkerStage) (answer : Option WorkerStep)
    → answer ≡ worker_goes b about stage → made b (meaning_of about) (worker_left s worker stage) ≡ worker_follows s worker answer
made_goes s worker true about stage answer is = ap (worker_follows s worker) (sym is)
made_goes s worker false about stage answer is = ap (worker_follows s worker) (sym is)
