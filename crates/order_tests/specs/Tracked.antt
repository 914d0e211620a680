-- What a walk through a record keeps.
use Rattle.std.specs.Prelude.{◌≡◌, ◌+◌, ◌*◌, length}
use Rattle.record_law.specs.declared.shape.Shape.{Shape}
use Rattle.record_order.specs.declared.queues.Queues.{Queues}
use Rattle.record_order.specs.declared.tracker.Tracker.{Tracker}
use Rattle.record_order.specs.Queues.{AreThere, HaveRoom}
use Rattle.record_order.specs.Tracked.{IsTracker}

-- a tracker and queues of a session whose rings have four cells
pub record IsTracked (s : Shape) (tracker : Tracker) (queues : Queues) : Type 0 where
  pub tracked : IsTracker s tracker
  pub there : AreThere s queues.queues.items
  pub room : HaveRoom 6 queues.queues.items
  pub rings : length queues.queues.items ≡ 18 + 3 * length s.insts
