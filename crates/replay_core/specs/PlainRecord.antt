-- The record of a run on one thread: everything in its one order.
use Rattle.std.specs.Prelude.{ℕ, ◌+◌, List, [], ◌∷◌, ◌++◌, length}
use Rattle.session_script.specs.declared.session.Session.{Session}
use Rattle.step_law.specs.declared.actor.Actor.{Actor}
use Rattle.step_law.specs.declared.actor.Actor.TheVariants.{Audio, Control, Worker}
use Rattle.step_law.specs.declared.call.Call.{Call}
use Rattle.step_law.specs.declared.call.Call.TheVariants.{Run, Make, Activate, Deactivate, Cleanup}
use Rattle.step_law.specs.declared.entry.Entry.{Entry}
use Rattle.step_law.specs.declared.ring.Ring.TheVariants.{ControlToAudio, ControlToWorker}
use Rattle.step_record.specs.Entry.{block_of, done_of, look_of, take_of, send_of, begin_of, end_of, stop_of, beat_of, join, last}
use Rattle.replay_core.specs.Each.{each}

-- a call on an instance, with nothing between its begin and its end
abbrev pub called : Actor → Call → ℕ → List Entry
called actor call inst = begin_of actor call inst ∷ end_of actor call inst ∷ []

-- control makes each instance, and then activates each
abbrev pub opening : ℕ → List Entry
opening insts = each insts (called Control Make) ++ each insts (called Control Activate)

-- audio looks for messages, of which there are none, and runs each instance
abbrev pub cycle : ℕ → ℕ → List Entry
cycle insts block =
    (block_of block ∷ look_of Audio ControlToAudio 0 ∷ []) ++ (each insts (called Audio Run) ++ (done_of block ∷ []))

-- audio stops; control sees it, and has the one worker stop too
abbrev pub stopping : ℕ → List Entry
stopping blocks =
    stop_of Audio ∷ beat_of (blocks + 1) ∷ send_of Control (ControlToWorker 1) ∷ take_of (Worker 1) (ControlToWorker 1) ∷ stop_of (Worker 1) ∷ join ∷ []

-- all that is done in a run of a session before the clean-up
abbrev pub before_cleanup : Session → List Entry
before_cleanup s =
    opening (length s.insts) ++ (each s.blocks (cycle (length s.insts)) ++ (stopping s.blocks ++ each (length s.insts) (called Control Deactivate)))

-- control deactivates each instance, and then cleans up each
abbrev pub closing : ℕ → List Entry
closing insts = each insts (called Control Deactivate) ++ (each insts (called Control Cleanup) ++ (last ∷ []))

-- the whole record of so many instances and blocks
abbrev pub plain_record : ℕ → ℕ → List Entry
plain_record insts blocks = opening insts ++ (each blocks (cycle insts) ++ (stopping blocks ++ closing insts))

-- the record of a session
abbrev pub record_of : Session → List Entry
record_of s = plain_record (length s.insts) s.blocks
