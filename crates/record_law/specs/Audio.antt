-- The order of work of audio. It reads audio's own steps alone.
use Rattle.std.specs.Prelude.{ℕ, zero, suc, nat_lt, nat_eq, Bool, true, false, ◌&&◌, ◌||◌, if◌then◌else◌, List, [], ◌∷◌, ◌++◌, map}
use Rattle.step_law.specs.declared.actor.Actor.{Actor}
use Rattle.step_law.specs.declared.actor.Actor.TheVariants.{Audio}
use Rattle.step_law.specs.declared.call.Call.{Call}
use Rattle.step_law.specs.declared.call.Call.TheVariants.{Run, Response, EndRun}
use Rattle.step_law.specs.declared.entry.Entry.{Entry}
use Rattle.step_law.specs.declared.entry.Kind.TheVariants.{Take, Send}
use Rattle.step_law.specs.declared.ring.Ring.{Ring}
use Rattle.step_law.specs.declared.ring.Ring.TheVariants.{ControlToAudio, AudioToControl, Jobs, Responses}
use Rattle.step_law.specs.Entry.{block_of, done_of, look_of, send_of, full_of, long_of, begin_of, end_of, stop_of}
use Rattle.record_law.specs.declared.shape.Shape.{Shape}
use Rattle.record_law.specs.Entries.{is_on, same_entry}
use Rattle.record_law.specs.Message.{Message, Step, History}
use Rattle.record_law.specs.Message.Message.{nothing, lend, part, give}
use Rattle.record_law.specs.Shape.{insts_of, works, replies}
use Rattle.record_law.specs.Task.{Task, Move, only_if, may_be, where_due}
use Rattle.record_law.specs.Task.Task.{one, take_from, attempts, look_messages, return_front, running, notices, look_responses}

-- a call makes at most 16 attempts, and none without a declared worker; a run tells at most 16 notices, and none without a reply port
abbrev pub at_most : Bool → ℕ
at_most true = 16
at_most false = 0

-- a call on an instance, with nothing between its begin and its end
abbrev pub whole_call : Actor → Call → ℕ → Message → List Task
whole_call actor call inst message = one (begin_of actor call inst) message ∷ one (end_of actor call inst) nothing ∷ []

-- ---- blocks

-- a block: what control sent, the fronts that it asked for, each instance in the plan's order
abbrev pub cycle : Shape → ℕ → List Task
cycle s block =
    (one (block_of block) nothing ∷ look_messages ∷ []) ++ map return_front (insts_of s) ++ map running s.plan ++ (one (done_of block) nothing ∷ [])

-- so many blocks from one on
abbrev pub cycles : Shape → ℕ → ℕ → List Task
cycles s block zero = []
cycles s block (suc more) = cycle s block ++ cycles s (suc block) more

-- all blocks, and then the stop
abbrev pub audio_tasks : Shape → List Task
audio_tasks s = cycles s 0 s.blocks ++ one (stop_of Audio) nothing ∷ []

-- ---- fronts

-- a front is audio's, or it is and control has asked for it, or it is away
pub data Place : Type 0 where
  here : Place
  wanted : Place
  away : Place

abbrev pub taken_front : ℕ → Message → Place → Place
taken_front inst (lend other) before = if nat_eq other inst then wanted else before
taken_front inst (give other) before = if nat_eq other inst then here else before
taken_front inst message before = before

abbrev pub sent_front : ℕ → Message → Place → Place
sent_front inst (part other) before = if nat_eq other inst then away else before
sent_front inst message before = before

-- what a step of audio makes of the place of a front: it takes what control sends, and sends control the front
abbrev pub front_after : ℕ → Step → Place → Place
front_after inst x before =
    if is_on Take ControlToAudio x.entry then taken_front inst x.about before
    else if is_on Send AudioToControl x.entry then sent_front inst x.about before else before

-- where a front is after audio's steps
abbrev pub front_place : ℕ → History → Place
front_place inst [] = here
front_place inst (x ∷ h) = front_after inst x (front_place inst h)

abbrev pub is_here : Place → Bool
is_here here = true
is_here place = false

abbrev pub is_wanted : Place → Bool
is_wanted wanted = true
is_wanted place = false

-- ---- moves

-- so many times the same tasks
abbrev pub times : ℕ → List Task → List Task
times zero tasks = []
times (suc more) tasks = tasks ++ times more tasks

-- an attempt to send: the ring takes the message, is full, or the message is too long
abbrev pub is_attempt : Actor → Ring → Entry → Bool
is_attempt actor ring e = same_entry (send_of actor ring) e || same_entry (full_of actor ring) e || same_entry (long_of actor ring) e

-- up to so many attempts, each about the message
abbrev pub try_to_send : Actor → Ring → Message → ℕ → List Task → Entry → Move
try_to_send actor ring message most again e = may_be (nat_lt 0 most && is_attempt actor ring e) message again

-- a look shows so many messages, and each is handled by tasks
abbrev pub look_at : Ring → List Task → Entry → Move
look_at ring each e = only_if (same_entry (look_of Audio ring e.b) e) nothing (times e.b each)

-- a front that is wanted is sent, or the ring is full
abbrev pub returning : ℕ → History → Entry → Move
returning inst h e =
    where_due (is_wanted (front_place inst h))
    (only_if (same_entry (send_of Audio AudioToControl) e || same_entry (full_of Audio AudioToControl) e) (part inst) [])

-- the responses to an instance are delivered before `end_run`
abbrev pub responding : Bool → ℕ → List Task
responding true inst = look_responses inst ∷ whole_call Audio EndRun inst nothing
responding false inst = []

-- what follows the begin of a run
abbrev pub run_tasks : Shape → ℕ → List Task
run_tasks s inst =
    attempts Audio (Jobs inst) (at_most (works s inst)) ∷ one (end_of Audio Run inst) nothing ∷ notices inst (at_most (replies s inst)) ∷ responding (works s inst) inst

abbrev pub run_begins : Shape → ℕ → History → Entry → Move
run_begins s inst h e = where_due (is_here (front_place inst h)) (only_if (same_entry (begin_of Audio Run inst) e) nothing (run_tasks s inst))

-- a response is taken and handed to the instance
abbrev pub delivery : ℕ → List Task
delivery inst = take_from Audio (Responses inst) ∷ whole_call Audio Response inst nothing
