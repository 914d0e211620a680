-- Worked sessions with actions, and their records on one thread.
use Rattle.std.specs.Prelude.{ℕ, ◌+◌, Bool, true, false, List, [], ◌∷◌, ◌++◌, None, Some, pos, codes}
use Rattle.plugin_decl.specs.declared.declaration.Decl.{Decl}
use Rattle.plugin_decl.specs.declared.declaration.Port.{Port}
use Rattle.plugin_decl.specs.declared.declaration.PortKind.TheVariants as kind
use Rattle.session_script.specs.declared.session.Action.{Action}
use Rattle.session_script.specs.declared.session.Deed.{Deed}
use Rattle.session_script.specs.declared.session.Deed.TheVariants as deed
use Rattle.session_script.specs.declared.session.Session.{Session}
use Rattle.state_store.specs.declared.prop.Prop.{Prop}
use Rattle.step_law.specs.declared.actor.Actor.TheVariants.{Audio, Control, Worker}
use Rattle.step_law.specs.declared.call.Call.TheVariants as call
use Rattle.step_law.specs.declared.entry.Entry.{Entry}
use Rattle.step_law.specs.declared.ring.Ring.TheVariants.{ControlToAudio, AudioToControl, ControlToWorker, WorkerToControl, Jobs, Responses, LocalJobs}
use Rattle.step_law.specs.Entry.{block_of, done_of, look_of, take_of, send_of, begin_of, end_of, stop_of, beat_of, late_of, join, last}
use Rattle.session_play.specs.Run.{Run}
use Rattle.worked_plays.specs.Codes as plain
use Rattle.worked_plays.specs.Stores as stores
use Rattle.worked_plays.specs.Sessions.{port_of, decl_of, const_decl, inst_of, out_of, session_of, built, opened, closed, cleaned, stopped, run_steps, begun}

-- ---- declarations

abbrev pub keep_decl : Decl
keep_decl =
    record (decl_of (codes "urn:lv2fx:keep") false (port_of 0 (codes "out") false kind.Audio (plain.ones 0) ∷ port_of 1 (codes "value") true kind.Control (plain.ones 0) ∷ [])) {
      state = true;
    }

-- a port for patch messages
abbrev pub message_port : ℕ → List ℕ → Bool → Port
message_port index symbol input = record (port_of index symbol input kind.Atom (plain.ones 0)) { room = 4096; control = true; patch = true }

abbrev pub tank_decl : Decl
tank_decl =
    record (decl_of (codes "urn:lv2fx:tank") true (message_port 0 (codes "control") true ∷ message_port 1 (codes "notify") false ∷ port_of 2 (codes "out") false kind.Audio (plain.ones 0) ∷ [])) {
      state = true;
      safe = true;
    }

-- ---- sessions of one instance

abbrev pub action_of : ℕ → Deed → Action
action_of block deed = record { block = block; inst = 0; deed = deed; line = 0 }

abbrev pub with_actions : (cells : ℕ) → List Action → Session → Session
with_actions cells actions session = record session { cells = cells; actions = actions }

-- a constant that is set
abbrev pub setting : (blocks cells : ℕ) → List Action → Run plain.Front plain.Back
setting blocks cells actions = record {
  setup = record {
    session = with_actions cells actions (session_of 1 blocks 8 (inst_of (codes "c") const_decl ∷ []) [] [] (out_of 0 (codes "out") ∷ []));
    decls = const_decl ∷ [];
    plan = record { order = 0 ∷ []; place = 0 ∷ [] };
    states = [];
  };
  codes = plain.makers;
  fronts = plain.fronts;
  backs = plain.backs;
  held = [];
}

abbrev pub set_to : ℕ → ℕ → Action
set_to block parts = action_of block (deed.Set (codes "value") (record { 0 = pos parts }))

-- an instance with a state
abbrev pub keeping : (blocks : ℕ) → List ℕ → Decl → List Action → List (List (ℕ × Prop)) → Run stores.Front stores.Back
keeping blocks name decl actions states = record {
  setup = record {
    session = with_actions 8 actions (session_of 2 blocks 8 (inst_of name decl ∷ []) [] [] (out_of 0 (codes "out") ∷ []));
    decls = decl ∷ [];
    plan = record { order = 0 ∷ []; place = 0 ∷ [] };
    states = states;
  };
  codes = stores.makers;
  fronts = stores.fronts;
  backs = stores.backs;
  held = stores.numbered_uris;
}

abbrev pub restore_at : ℕ → Action
restore_at block = action_of block (deed.Restore (codes "s.ttl") 0)

abbrev pub save_at : ℕ → Action
save_at block = action_of block deed.Save

abbrev pub state_with : ℕ → List (ℕ × Prop)
state_with parts = (stores.level_key, record { kind = stores.fixed_kind; flags = 3; bytes = stores.level_bytes (pos parts) }) ∷ []

-- ---- records of a constant that is set

abbrev pub plain_block : (block shown : ℕ) → List Entry → List Entry
plain_block block shown taken = block_of block ∷ look_of Audio ControlToAudio shown ∷ taken ++ run_steps 0 ++ done_of block ∷ []

abbrev pub took : List Entry
took = take_of Audio ControlToAudio ∷ []

abbrev pub ended : List Entry
ended = closed 0 ++ cleaned 0 ++ last ∷ []

-- the second value waits until there is room for it
abbrev pub setting_steps : List Entry
setting_steps =
    built 0
    ++ opened 0
    ++ (beat_of 0 ∷ send_of Control ControlToAudio ∷ [])
    ++ plain_block 0 1 took
    ++ (send_of Control ControlToAudio ∷ [])
    ++ plain_block 1 1 took
    ++ plain_block 2 0 []
    ++ stopped 3
    ++ ended

abbrev pub late_steps : List Entry
late_steps = built 0 ++ opened 0 ++ plain_block 0 0 [] ++ stopped 1 ++ (late_of 0 ∷ []) ++ ended

-- ---- records of a restore with both parts

abbrev pub restore_call : List Entry
restore_call = begin_of Control call.Restore 0 ∷ end_of Control call.Restore 0 ∷ []

abbrev pub lent_steps : List Entry
lent_steps =
    beat_of 2
    ∷ send_of Control ControlToAudio
    ∷ block_of 2
    ∷ look_of Audio ControlToAudio 1
    ∷ take_of Audio ControlToAudio
    ∷ send_of Audio AudioToControl
    ∷ done_of 2
    ∷ take_of Control AudioToControl
    ∷ send_of Control (ControlToWorker 1)
    ∷ take_of (Worker 1) (ControlToWorker 1)
    ∷ send_of (Worker 1) (WorkerToControl 1)
    ∷ take_of Control (WorkerToControl 1)
    ∷ []

abbrev pub given_back_steps : List Entry
given_back_steps = send_of Control (ControlToWorker 1) ∷ send_of Control ControlToAudio ∷ take_of (Worker 1) (ControlToWorker 1) ∷ []

abbrev pub restoring_steps : List Entry
restoring_steps =
    built 0
    ++ opened 0
    ++ plain_block 0 0 []
    ++ plain_block 1 0 []
    ++ lent_steps
    ++ restore_call
    ++ given_back_steps
    ++ plain_block 3 1 took
    ++ stopped 4
    ++ ended

-- a restore that comes only once the blocks are played
abbrev pub restored_late_steps : List Entry
restored_late_steps =
    built 0
    ++ opened 0
    ++ plain_block 0 0 []
    ++ plain_block 1 0 []
    ++ plain_block 2 0 []
    ++ plain_block 3 0 []
    ++ stopped 4
    ++ restore_call
    ++ ended

-- ---- records of a restore beside the runs, between two saves

abbrev pub worker_block : (block shown : ℕ) → List Entry → List Entry
worker_block block shown delivered =
    begun block ++ run_steps 0 ++ (look_of Audio (Responses 0) shown ∷ delivered) ++ (begin_of Audio call.EndRun 0 ∷ end_of Audio call.EndRun 0 ∷ done_of block ∷ [])

abbrev pub delivery : List Entry
delivery = take_of Audio (Responses 0) ∷ begin_of Audio call.Response 0 ∷ end_of Audio call.Response 0 ∷ []

abbrev pub asked : ℕ → List Entry
asked block = beat_of block ∷ send_of Control (ControlToWorker 1) ∷ take_of (Worker 1) (ControlToWorker 1) ∷ []

abbrev pub answered : List Entry
answered = send_of (Worker 1) (WorkerToControl 1) ∷ take_of Control (WorkerToControl 1) ∷ []

abbrev pub save_call : List Entry
save_call = begin_of (Worker 1) call.Save 0 ∷ end_of (Worker 1) call.Save 0 ∷ []

abbrev pub safe_call : List Entry
safe_call =
    begin_of (Worker 1) call.RestoreSafe 0
    ∷ send_of (Worker 1) (LocalJobs 0)
    ∷ end_of (Worker 1) call.RestoreSafe 0
    ∷ take_of (Worker 1) (LocalJobs 0)
    ∷ begin_of (Worker 1) call.Work 0
    ∷ send_of (Worker 1) (Responses 0)
    ∷ end_of (Worker 1) call.Work 0
    ∷ []

abbrev pub saving_steps : List Entry
saving_steps =
    built 0
    ++ opened 0
    ++ asked 0
    ++ save_call
    ++ answered
    ++ worker_block 0 0 []
    ++ asked 1
    ++ safe_call
    ++ answered
    ++ worker_block 1 1 delivery
    ++ asked 2
    ++ save_call
    ++ answered
    ++ worker_block 2 0 []
    ++ stopped 3
    ++ ended

-- ---- a record of messages and their answers

abbrev pub first_message_block : List Entry
first_message_block =
    (block_of 0 ∷ look_of Audio ControlToAudio 2 ∷ [])
    ++ took
    ++ took
    ++ (begin_of Audio call.Run 0 ∷ send_of Audio (Jobs 0) ∷ end_of Audio call.Run 0 ∷ send_of Audio AudioToControl ∷ [])
    ++ (take_of (Worker 1) (Jobs 0) ∷ begin_of (Worker 1) call.Work 0 ∷ end_of (Worker 1) call.Work 0 ∷ [])
    ++ (look_of Audio (Responses 0) 0 ∷ begin_of Audio call.EndRun 0 ∷ end_of Audio call.EndRun 0 ∷ done_of 0 ∷ [])

abbrev pub second_message_block : List Entry
second_message_block =
    (block_of 1 ∷ look_of Audio ControlToAudio 1 ∷ [])
    ++ took
    ++ run_steps 0
    ++ (send_of Audio AudioToControl ∷ look_of Audio (Responses 0) 0 ∷ begin_of Audio call.EndRun 0 ∷ end_of Audio call.EndRun 0 ∷ done_of 1 ∷ [])

abbrev pub message_steps : List Entry
message_steps =
    built 0
    ++ opened 0
    ++ (beat_of 0 ∷ send_of Control ControlToAudio ∷ send_of Control ControlToAudio ∷ [])
    ++ first_message_block
    ++ (take_of Control AudioToControl ∷ beat_of 1 ∷ send_of Control ControlToAudio ∷ [])
    ++ second_message_block
    ++ (stop_of Audio ∷ take_of Control AudioToControl ∷ beat_of 3 ∷ send_of Control (ControlToWorker 1) ∷ [])
    ++ (take_of (Worker 1) (ControlToWorker 1) ∷ stop_of (Worker 1) ∷ join ∷ [])
    ++ ended

-- a level is set by a message, and asked for by two
abbrev pub messaging : Run stores.Front stores.Back
messaging =
    keeping 2 (codes "t") tank_decl
    (action_of 0 (deed.PatchFixed (codes "urn:lv2fx:level") (record { 0 = pos 4194304 }))
    ∷ action_of 0 (deed.PatchGet (Some (codes "urn:lv2fx:level")))
    ∷ action_of 1 (deed.PatchGet None)
    ∷ []) []
