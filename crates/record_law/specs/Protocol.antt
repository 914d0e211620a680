-- The order of work of all actors: what an entry of an actor makes of its tasks, and which message it is about.
use Rattle.std.specs.Prelude.{◌-◌, if◌then◌else◌, List, [], ◌∷◌, ◌++◌, Option, Some, None}
use Rattle.step_law.specs.declared.actor.Actor.{Actor}
use Rattle.step_law.specs.declared.actor.Actor.TheVariants.{Audio, Control, Worker}
use Rattle.step_law.specs.declared.entry.Entry.{Entry}
use Rattle.step_law.specs.declared.entry.Kind.TheVariants.{Take}
use Rattle.step_law.specs.declared.ring.Ring.TheVariants.{ControlToAudio, AudioToControl, Responses}
use Rattle.step_law.specs.Actor.{actor_at}
use Rattle.step_law.specs.Entry.{take_of}
use Rattle.step_law.specs.Ring.{ring_at}
use Rattle.record_law.specs.declared.shape.Shape.{Shape}
use Rattle.record_law.specs.Entries.{is_kind, same_entry}
use Rattle.record_law.specs.Message.{Message, History}
use Rattle.record_law.specs.Message.Message.{nothing, body, notice}
use Rattle.record_law.specs.History.{next_on, own}
use Rattle.record_law.specs.Task.{Task, Move, only_if, may_be}
use Rattle.record_law.specs.Task.Task.{one, take_from, attempts, look_messages, return_front, running, notices, look_responses, serving, local_jobs, acting, closing, leftovers}
use Rattle.record_law.specs.Task.Move.{refuses, passes, goes}
use Rattle.record_law.specs.Audio.{audio_tasks, try_to_send, look_at, returning, run_begins, delivery}
use Rattle.record_law.specs.Worker.{worker_tasks, serve, work_local}
use Rattle.record_law.specs.Control.{control_tasks, act_or_take, close_worker}

-- all that an actor has to do
abbrev pub tasks_of : Shape → Actor → List Task
tasks_of s Audio = audio_tasks s
tasks_of s Control = control_tasks s
tasks_of s (Worker worker) = worker_tasks worker

-- what an entry makes of a task, after the actor's own steps; a take brings a message
abbrev pub move : Shape → History → Message → Task → Entry → Move
move s h taken (one it message) e = only_if (same_entry it e) message []
move s h taken (take_from actor ring) e = only_if (same_entry (take_of actor ring) e) taken []
move s h taken (attempts actor ring most) e = try_to_send actor ring body most (attempts actor ring (most - 1) ∷ []) e
move s h taken look_messages e = look_at ControlToAudio (take_from Audio ControlToAudio ∷ []) e
move s h taken (return_front inst) e = returning inst h e
move s h taken (running inst) e = run_begins s inst h e
move s h taken (notices inst most) e = try_to_send Audio AudioToControl (notice inst) most (notices inst (most - 1) ∷ []) e
move s h taken (look_responses inst) e = look_at (Responses inst) (delivery inst) e
move s h taken (serving worker) e = serve s worker h taken e
move s h taken (local_jobs worker inst) e = work_local worker inst h taken e
move s h taken (acting stages) e = act_or_take s h taken stages e
move s h taken (closing worker) e = close_worker worker taken e
move s h taken (leftovers ring) e = may_be (same_entry (take_of Control ring) e) taken (leftovers ring ∷ [])

-- what is left to do after an entry, and what the entry is about, if the tasks let it come next
pub record Follows : Type 0 where
  pub about : Message
  pub left : List Task

abbrev pub then_left : Move → List Task → Option Follows → Option Follows
then_left refuses tasks otherwise = None
then_left passes tasks otherwise = otherwise
then_left (goes message first) tasks otherwise = Some (record { about = message; left = first ++ tasks })

abbrev pub follow : Shape → History → Message → List Task → Entry → Option Follows
follow s h taken [] e = None
follow s h taken (task ∷ tasks) e = then_left (move s h taken task e) tasks (follow s h taken tasks e)

abbrev pub left_in : Option Follows → List Task
left_in None = []
left_in (Some it) = it.left

abbrev pub about_in : Option Follows → Message
about_in None = nothing
about_in (Some it) = it.about

-- what an actor has left to do after its own steps
abbrev pub left_after : Shape → Actor → History → List Task
left_after s actor [] = tasks_of s actor
left_after s actor (x ∷ h) = left_in (follow s h x.about (left_after s actor h) x.entry)

-- a take brings the message that is next on its ring
abbrev pub brought : History → Entry → Message
brought h e = if is_kind Take e then next_on (ring_at e.a) h else nothing

-- what an entry is by its actor's tasks, where it comes after a history
abbrev pub follow_in : Shape → History → Entry → Option Follows
follow_in s h e = let actor = actor_at e.actor in follow s (own actor h) (brought h e) (left_after s actor (own actor h)) e

-- an entry is done: it is about what the order of work makes of it
abbrev pub done_in : Shape → History → Entry → History
done_in s h e = record { entry = e; about = about_in (follow_in s h e) } ∷ h

-- a history and then these entries, in order
abbrev pub after : Shape → History → List Entry → History
after s h [] = h
after s h (e ∷ later) = after s (done_in s h e) later

-- the history of a record
abbrev pub history_of : Shape → List Entry → History
history_of s steps = after s [] steps
