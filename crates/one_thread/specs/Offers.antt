-- The entries that control or a worker may make next, by its tasks.
use Rattle.std.specs.Prelude.{ℕ, if◌then◌else◌, List, [], ◌∷◌, ◌++◌, map, flat_map}
use Rattle.step_law.specs.declared.actor.Actor.{Actor}
use Rattle.step_law.specs.declared.actor.Actor.TheVariants.{Control, Worker}
use Rattle.step_law.specs.declared.call.Call.TheVariants.{Restore}
use Rattle.step_law.specs.declared.entry.Entry.{Entry}
use Rattle.step_law.specs.declared.ring.Ring.TheVariants.{ControlToAudio, AudioToControl, ControlToWorker, WorkerToControl, Jobs, LocalJobs}
use Rattle.step_law.specs.Entry.{take_of, send_of, full_of, long_of, begin_of, stop_of, beat_of}
use Rattle.record_law.specs.declared.shape.Shape.{Shape}
use Rattle.record_law.specs.Control.{has_reached}
use Rattle.record_law.specs.Message.{History}
use Rattle.record_law.specs.History.{own, progress_in}
use Rattle.record_law.specs.Protocol.{left_after}
use Rattle.record_law.specs.Shape.{insts_of}
use Rattle.record_law.specs.Task.{Stage, Due, Task}
use Rattle.record_law.specs.Task.Stage.{due, tell, ask, hear, front, restoring}
use Rattle.record_law.specs.Task.Task.{one, take_from, attempts, serving, local_jobs, acting, closing, leftovers}

-- how far audio is: the progress that it made known last
abbrev pub newest : List ℕ → ℕ
newest [] = 0
newest (progress ∷ earlier) = progress

abbrev pub progress_now : Shape → History → ℕ
progress_now s h = newest (progress_in s h)

-- what control may do for a stage of its actions, besides looking at the progress
abbrev pub stage_offers : Stage → List Entry
stage_offers (due block) = []
stage_offers (tell message) = send_of Control ControlToAudio ∷ []
stage_offers (ask worker message) = send_of Control (ControlToWorker worker) ∷ []
stage_offers (hear worker) = take_of Control (WorkerToControl worker) ∷ []
stage_offers (front inst) = []
stage_offers (restoring action inst) = begin_of Control Restore inst ∷ []

-- for the first stage that isn't over: a block that was seen needs none
abbrev pub stages_offer : History → List Due → List Entry
stages_offer h [] = []
stages_offer h ((k, due block) ∷ later) = let rest = stages_offer h later in if has_reached block h then rest else []
stages_offer h ((k, stage) ∷ later) = stage_offers stage

-- what it may do for a task, after its own steps, where audio is so far
abbrev pub task_offers : Shape → History → (progress : ℕ) → Task → List Entry
task_offers s h progress (one it message) = it ∷ []
task_offers s h progress (take_from actor ring) = take_of actor ring ∷ []
task_offers s h progress (attempts actor ring most) = send_of actor ring ∷ full_of actor ring ∷ long_of actor ring ∷ []
task_offers s h progress (serving worker) =
    stop_of (Worker worker) ∷ take_of (Worker worker) (ControlToWorker worker) ∷ map (λ inst. take_of (Worker worker) (Jobs inst)) (insts_of s)
task_offers s h progress (local_jobs worker inst) = take_of (Worker worker) (LocalJobs inst) ∷ []
task_offers s h progress (acting stages) = take_of Control AudioToControl ∷ stages_offer h stages ++ beat_of progress ∷ []
task_offers s h progress (closing worker) = take_of Control AudioToControl ∷ send_of Control (ControlToWorker worker) ∷ []
task_offers s h progress (leftovers ring) = take_of Control ring ∷ []
task_offers s h progress task = []

-- what an actor may do after a history
abbrev pub offers : Shape → History → Actor → List Entry
offers s h actor = flat_map (task_offers s (own actor h) (progress_now s h)) (left_after s actor (own actor h))
