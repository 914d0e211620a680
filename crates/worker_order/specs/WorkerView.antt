-- What a worker judges an entry by, and its answers.
use Rattle.std.specs.Prelude.{◌≡◌, ◌<◌, ◌≤◌, List, [], length, Option, None}
use Rattle.record_law.specs.Message.{History}
use Rattle.step_law.specs.declared.ring.Ring.{Ring}
use Rattle.step_law.specs.Ring.{ring_at}
use Rattle.record_law.specs.Protocol.{follow, then_left}
use Rattle.record_law.specs.Task.{Task}
use Rattle.record_law.specs.Worker.{was_closed, serve_from}
use Rattle.worker_order.specs.declared.worker.WorkerView.{WorkerView}
use Rattle.worker_order.specs.declared.worker_stage.WorkerStage.{WorkerStage}
use Rattle.worker_order.specs.declared.worker_stage.WorkerStep.{WorkerStep}
use Rattle.worker_order.specs.Backs.{AreBacks}
use Rattle.order_base.specs.Limits.{KeepsLimits}
use Rattle.worker_order.specs.Locals.{AreLocals, most_counted}
use Rattle.record_terms.specs.Message.{meaning_of}
use Rattle.order_base.specs.There.{IsThere}
use Rattle.worker_order.specs.Worker.{worker_left, worker_follows, IsWorkerStage}

-- the session keeps its limits, the worker is one of at most 8, each instance is in its tables, and what a take brings names what is there
pub record IsView (view : WorkerView) : Type 0 where
  pub limits : KeepsLimits view.shape.now
  pub worker : view.worker ≤ 8
  pub backs : length view.backs.now ≡ length view.shape.now.insts
  pub locals : length view.locals.now ≡ length view.shape.now.insts
  pub brought : IsThere view.shape.now view.brought

-- what the worker knows is so after its own steps, of which there are few enough to be counted
pub record Knows (view : WorkerView) (h : History) : Type 0 where
  pub backs : AreBacks view.worker view.backs.now h
  pub locals : AreLocals view.locals.now h
  pub closed : was_closed view.worker h ≡ view.closed
  pub short : length h < most_counted

-- an answer is what the entry makes of tasks, after each history of the worker's in which it knows what is so
abbrev pub Judges : WorkerView → List Task → Option WorkerStep → Type 0
Judges view tasks answer =
    (h : History) → Knows view h → follow view.shape.now h (meaning_of view.brought) tasks view.entry ≡ worker_follows view.shape.now view.worker answer

abbrev pub AtStage : WorkerView → WorkerStage → Option WorkerStep → Type 0
AtStage view stage answer = Judges view (worker_left view.shape.now view.worker stage) answer

-- an answer is what a take of a ring, or an entry that is no stop, makes of the task to serve
abbrev pub ServesFrom : WorkerView → Ring → Option WorkerStep → Type 0
ServesFrom view ring answer =
    (h : History) → Knows view h
    → then_left (serve_from view.shape.now view.worker h (meaning_of view.brought) ring view.entry) [] None ≡ worker_follows view.shape.now view.worker answer

abbrev pub Serves : WorkerView → Option WorkerStep → Type 0
Serves view answer = ServesFrom view (ring_at view.entry.a) answer

-- an answer names what is there, and goes on to a stage of the session
abbrev pub IsStep : WorkerView → WorkerStep → Type 0
IsStep view step = IsThere view.shape.now step.about × IsWorkerStage view.shape.now step.stage
