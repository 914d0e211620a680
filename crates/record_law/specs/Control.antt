-- The order of work of control. It reads control's own steps alone.
use Rattle.std.specs.Prelude.{ℕ, ◌+◌, nat_le, nat_eq, Bool, false, ◌&&◌, if◌then◌else◌, List, [], ◌∷◌, ◌++◌, map, flat_map, length, drop}
use Rattle.std.specs.List.{list_any}
use Rattle.step_law.specs.declared.actor.Actor.TheVariants.{Control}
use Rattle.step_law.specs.declared.call.Call.TheVariants.{Make, Activate, Deactivate, Cleanup, Restore}
use Rattle.step_law.specs.declared.entry.Entry.{Entry}
use Rattle.step_law.specs.declared.entry.Kind.TheVariants.{Beat}
use Rattle.step_law.specs.declared.ring.Ring.{Ring}
use Rattle.step_law.specs.declared.ring.Ring.TheVariants.{ControlToAudio, AudioToControl, ControlToWorker, WorkerToControl}
use Rattle.step_law.specs.Entry.{take_of, send_of, begin_of, end_of, beat_of, join, last}
use Rattle.record_law.specs.declared.shape.Shape.{Shape}
use Rattle.record_law.specs.declared.shape.ShapeAction.{ShapeAction}
use Rattle.record_law.specs.Entries.{is_kind, same_entry}
use Rattle.record_law.specs.Message.{Message, Step, History}
use Rattle.record_law.specs.Message.Message.{nothing, part, restore, close}
use Rattle.record_law.specs.Shape.{insts_of, workers_of, worker_of}
use Rattle.record_law.specs.Task.{Due, Task, Move, only_if}
use Rattle.record_law.specs.Task.Stage.{due, tell, ask, hear, front, restoring}
use Rattle.record_law.specs.Task.Task.{one, acting, closing, leftovers}
use Rattle.record_law.specs.Task.Move.{goes}
use Rattle.record_law.specs.Audio.{whole_call}
use Rattle.record_law.specs.Actions.{stages_of, finish}

-- ---- opening and acting

-- each instance is made, and then each is activated
abbrev pub opening : Shape → List Task
opening s =
    flat_map (λ inst. whole_call Control Make inst nothing) (insts_of s) ++ flat_map (λ inst. whole_call Control Activate inst nothing) (insts_of s)

-- the stages of all actions from the k-th on
abbrev pub stages_from : Shape → ℕ → List ShapeAction → List Due
stages_from s k [] = []
stages_from s k (it ∷ later) = (k, due it.block) ∷ stages_of it.kind k it.inst (worker_of s it.inst) ++ stages_from s (k + 1) later

abbrev pub control_tasks : Shape → List Task
control_tasks s = opening s ++ acting (stages_from s 0 s.actions) ∷ []

-- ---- closing

-- the actions from the k-th on are done directly
abbrev pub finish_from : ℕ → List ShapeAction → List Task
finish_from k [] = []
finish_from k (it ∷ later) = finish it.kind k it.inst ++ finish_from (k + 1) later

-- the rings of which control takes what is left, in order
abbrev pub rings_left : Shape → List Ring
rings_left s = AudioToControl ∷ map WorkerToControl (workers_of s)

-- each instance is deactivated, and then each is cleaned up
abbrev pub cleaning : Shape → List Task
cleaning s =
    flat_map (λ inst. whole_call Control Deactivate inst nothing) (insts_of s) ++ flat_map (λ inst. whole_call Control Cleanup inst nothing) (insts_of s)

-- Once audio has stopped, workers are told to stop. When all have, what is left is taken, the actions from the k-th on are done, and the
-- instances are cleaned up.
abbrev pub ending : Shape → ℕ → List Task
ending s k =
    map closing (workers_of s)
    ++ (one join nothing ∷ [])
    ++ map leftovers (rings_left s)
    ++ finish_from k (drop k s.actions)
    ++ cleaning s
    ++ (one last nothing ∷ [])

-- ---- moves

-- control has seen that a block is reached
abbrev pub has_reached : ℕ → History → Bool
has_reached block h = list_any (λ (x : Step). is_kind Beat x.entry && nat_le block x.entry.a) h

-- the stop of audio is seen, and ends the actions
abbrev pub ends : Shape → ℕ → Entry → Move
ends s k e = only_if (same_entry (beat_of (s.blocks + 1)) e) nothing (ending s k)

-- control sees that a block is reached, or that audio has stopped
abbrev pub sees : Shape → ℕ → ℕ → List Due → Entry → Move
sees s k block later e =
    if same_entry (beat_of e.a) e && nat_le block e.a && nat_le e.a s.blocks then goes nothing (acting later ∷ []) else ends s k e

-- the next stage; a block that was seen needs no stage
abbrev pub act : Shape → History → Message → List Due → Entry → Move
act s h taken [] e = ends s (length s.actions) e
act s h taken ((k, due block) ∷ later) e = if has_reached block h then act s h taken later e else sees s k block later e
act s h taken ((k, tell message) ∷ later) e =
    if same_entry (send_of Control ControlToAudio) e then goes message (acting later ∷ []) else ends s k e
act s h taken ((k, ask worker message) ∷ later) e = only_if (same_entry (send_of Control (ControlToWorker worker)) e) message (acting later ∷ [])
act s h taken ((k, hear worker) ∷ later) e = only_if (same_entry (take_of Control (WorkerToControl worker)) e) taken (acting later ∷ [])
act s h taken ((k, front inst) ∷ later) e = ends s k e
act s h taken ((k, restoring action inst) ∷ later) e =
    only_if (same_entry (begin_of Control Restore inst) e) (restore action inst) (one (end_of Control Restore inst) nothing ∷ acting later ∷ [])

abbrev pub is_part : ℕ → Message → Bool
is_part inst (part other) = nat_eq other inst
is_part inst message = false

-- the front that control waits for is the end of that stage
abbrev pub stages_after : Message → List Due → List Due
stages_after taken ((k, front inst) ∷ later) = if is_part inst taken then later else (k, front inst) ∷ later
stages_after taken stages = stages

-- what audio sends is taken between any two stages
abbrev pub act_or_take : Shape → History → Message → List Due → Entry → Move
act_or_take s h taken stages e =
    if same_entry (take_of Control AudioToControl) e then goes taken (acting (stages_after taken stages) ∷ []) else act s h taken stages e

-- a worker is told to stop; before that, what audio sends is taken
abbrev pub close_worker : ℕ → Message → Entry → Move
close_worker worker taken e =
    if same_entry (take_of Control AudioToControl) e then goes taken (closing worker ∷ []) else only_if (same_entry (send_of Control (ControlToWorker worker)) e) close []
