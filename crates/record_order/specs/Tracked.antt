-- What a tracker of all actors says of a history, and how an entry moves it.
use Rattle.std.specs.Prelude.{◌≡◌, ℕ, ◌+◌, ◌<◌, List, [], length, true, slice_get, Option, Some, None, is_some, MatchOption, IfSome, IfNone}
use Rattle.step_law.specs.declared.actor.Actor.TheVariants.{Audio, Control, Worker}
use Rattle.step_law.specs.declared.entry.Entry.{Entry}
use Rattle.record_law.specs.declared.shape.Shape.{Shape}
use Rattle.record_law.specs.History.{own}
use Rattle.record_law.specs.Message.{History}
use Rattle.record_law.specs.Protocol as law
use Rattle.audio_order.specs.Tracked.{IsAudio, AudioStands}
use Rattle.control_order.specs.TrackedControl.{IsControl, ControlStands}
use Rattle.record_terms.specs.declared.message.Message.{Message}
use Rattle.record_terms.specs.Message.{meaning_of}
use Rattle.worker_order.specs.declared.worker_tracker.WorkerTracker.{WorkerTracker}
use Rattle.worker_order.specs.Locals.{most_counted}
use Rattle.worker_order.specs.TrackedWorker.{IsWorker, WorkerStands}
use Rattle.record_order.specs.declared.tracker.Tracker.{Tracker}

-- each worker has its tracker, in order
abbrev pub AreWorkers : Shape → List WorkerTracker → Type 0
AreWorkers s workers = (i : ℕ) (it : WorkerTracker) → slice_get workers i ≡ Some it → (it.worker ≡ i + 1) × IsWorker s it

-- a tracker of a session
pub record IsTracker (s : Shape) (tracker : Tracker) : Type 0 where
  pub audio : IsAudio s tracker.audio
  pub control : IsControl s tracker.control
  pub workers : AreWorkers s tracker.workers.items
  pub count : length tracker.workers.items ≡ s.workers

-- workers' trackers stand for their own steps in a history
abbrev pub WorkersStand : Shape → List WorkerTracker → History → Type 0
WorkersStand s workers h = (i : ℕ) (it : WorkerTracker) → slice_get workers i ≡ Some it → WorkerStands s it (own (Worker it.worker) h)

-- so many workers that have done nothing
pub record HasWorkers (s : Shape) (workers : List WorkerTracker) (n : ℕ) : Type 0 where
  pub count : length workers ≡ n
  pub are : AreWorkers s workers
  pub stand : WorkersStand s workers []

-- a tracker stands for a history: each part stands for its actor's own steps
pub record Stands (s : Shape) (tracker : Tracker) (h : History) : Type 0 where
  pub audio : AudioStands s tracker.audio (own Audio h)
  pub control : ControlStands s tracker.control (own Control h)
  pub workers : WorkersStand s tracker.workers.items h

-- an answer says what an entry is by its actor's tasks
abbrev pub Says : Option Message → Option law.Follows → Type 0
Says answer follows = MatchOption answer (follows ≡ None) (λ about. (is_some follows ≡ true) × (law.about_in follows ≡ meaning_of about))

-- trackers of the same stages
pub record AreSame (after before : Tracker) : Type 0 where
  pub audio : after.audio ≡ before.audio
  pub control : after.control ≡ before.control
  pub workers : after.workers.items ≡ before.workers.items

-- after each history that a tracker stands for, another stands for the history with an entry
abbrev pub GoesOn : Shape → Tracker → Tracker → Message → Entry → Type 0
GoesOn s before after brought e =
    (h : History) → length h < most_counted → Stands s before h → meaning_of brought ≡ law.brought h e → Stands s after (law.done_in s h e)

-- After each history that a tracker stands for, an answer says what an entry is, where a take brings the message that is next on its
-- ring; and the tracker stands for the history with the entry, or stays as it was where the entry may not come.
pub record Goes (s : Shape) (before after : Tracker) (brought : Message) (e : Entry) (answer : Option Message) : Type 0 where
  pub says : (h : History) → length h < most_counted → Stands s before h → meaning_of brought ≡ law.brought h e → Says answer (law.follow_in s h e)
  pub stands : IfSome answer (λ about. GoesOn s before after brought e)
  pub stays : IfNone answer (AreSame after before)
