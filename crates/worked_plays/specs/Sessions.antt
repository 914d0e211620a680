-- Worked sessions, what their instances declare, and their records on one thread.
use Rattle.std.specs.Prelude.{ℕ, ◌+◌, Bool, true, false, List, [], ◌∷◌, ◌++◌, None, pos, codes}
use Rattle.lv_base.specs.declared.number.Fixed.{Fixed}
use Rattle.plugin_decl.specs.declared.declaration.Decl.{Decl}
use Rattle.plugin_decl.specs.declared.declaration.Port.{Port}
use Rattle.plugin_decl.specs.declared.declaration.PortKind.{PortKind}
use Rattle.plugin_decl.specs.declared.declaration.PortKind.TheVariants as kind
use Rattle.session_script.specs.declared.session.CableLine.{CableLine}
use Rattle.session_script.specs.declared.session.Inst.{Inst}
use Rattle.session_script.specs.declared.session.OutLine.{OutLine}
use Rattle.session_script.specs.declared.session.Session.{Session}
use Rattle.session_script.specs.declared.session.SetLine.{SetLine}
use Rattle.step_law.specs.declared.actor.Actor.TheVariants.{Audio, Control, Worker}
use Rattle.step_law.specs.declared.call.Call.TheVariants as call
use Rattle.step_law.specs.declared.entry.Entry.{Entry}
use Rattle.step_law.specs.declared.ring.Ring.TheVariants.{ControlToAudio, AudioToControl, ControlToWorker, Jobs, Responses}
use Rattle.step_law.specs.Entry.{block_of, done_of, look_of, take_of, send_of, full_of, begin_of, end_of, stop_of, beat_of, join, last}
use Rattle.session_play.specs.Run.{Run}
use Rattle.worked_plays.specs.Codes.{Front, Back, fronts, backs, makers, ones}

-- ---- declarations

abbrev pub port_of : (index : ℕ) → List ℕ → (input : Bool) → PortKind → Fixed → Port
port_of index symbol input kind first = record {
  index = index;
  symbol = symbol;
  name = symbol;
  input = input;
  kind = kind;
  optional = false;
  first = first;
  least = None;
  most = None;
  room = 0;
  control = false;
  patch = false;
}

abbrev pub decl_of : List ℕ → (worker : Bool) → List Port → Decl
decl_of uri worker ports = record {
  uri = uri;
  name = [];
  minor = 0;
  micro = 0;
  ports = ports;
  worker = worker;
  state = false;
  safe = false;
  reads = [];
  writes = [];
}

abbrev pub const_decl : Decl
const_decl =
    decl_of (codes "urn:lv2fx:const") false (port_of 0 (codes "value") true kind.Control (ones 0) ∷ port_of 1 (codes "out") false kind.Audio (ones 0) ∷ [])

abbrev pub amp_decl : Decl
amp_decl =
    decl_of (codes "urn:lv2fx:amp") false
    (port_of 0 (codes "gain") true kind.Control (ones 1) ∷ port_of 1 (codes "in") true kind.Audio (ones 0) ∷ port_of 2 (codes "out") false kind.Audio (ones 0) ∷ [])

abbrev pub fetch_decl : Decl
fetch_decl =
    decl_of (codes "urn:lv2fx:fetch") true (port_of 0 (codes "out") false kind.Audio (ones 0) ∷ port_of 1 (codes "refused") false kind.Control (ones 0) ∷ [])

abbrev pub burst_decl : Decl
burst_decl =
    decl_of (codes "urn:lv2fx:burst") true
    (port_of 0 (codes "jobs") true kind.Control (ones 3)
    ∷ port_of 1 (codes "size") true kind.Control (ones 8)
    ∷ port_of 2 (codes "ok") false kind.Control (ones 0)
    ∷ port_of 3 (codes "refused") false kind.Control (ones 0)
    ∷ port_of 4 (codes "out") false kind.Audio (ones 0)
    ∷ [])

-- it answers on an atom port
abbrev pub reply_port : Port
reply_port = record (port_of 0 (codes "notify") false kind.Atom (ones 0)) { room = 4096; patch = true }

abbrev pub teller_decl : Decl
teller_decl = decl_of (codes "urn:example:teller") false (reply_port ∷ [])

-- ---- sessions

abbrev pub inst_of : List ℕ → Decl → Inst
inst_of name decl = record { name = name; uri = decl.uri; worker = None; line = 0 }

abbrev pub set_of : ℕ → List ℕ → Fixed → SetLine
set_of inst symbol value = record { inst = inst; symbol = symbol; value = value; line = 0 }

abbrev pub cable_of : (source : ℕ) → List ℕ → (target : ℕ) → List ℕ → (delayed : Bool) → CableLine
cable_of source output target input delayed =
    record { source = source; output = output; target = target; input = input; delayed = delayed; line = 0 }

abbrev pub out_of : ℕ → List ℕ → OutLine
out_of inst symbol = record { inst = inst; symbol = symbol; line = 0 }

abbrev pub session_of : (block blocks cells : ℕ) → List Inst → List SetLine → List CableLine → List OutLine → Session
session_of block blocks cells insts sets cables outs = record {
  rate = 48000;
  block = block;
  blocks = blocks;
  workers = 1;
  cells = cells;
  reserve = None;
  bundles = [];
  insts = insts;
  sets = sets;
  cables = cables;
  outs = outs;
  actions = [];
}

abbrev pub run_of : Session → List Decl → List ℕ → Run Front Back
run_of session decls order =
    record { setup = record { session = session; decls = decls; plan = record { order = order; place = order }; states = [] }; codes = makers; fronts = fronts; backs = backs; held = codes "urn:lv2fx:level" ∷ [] }

-- a constant of 0.5 into an amplifier by half
abbrev pub half : Fixed
half = record { 0 = pos 8388608 }

abbrev pub amplified : (blocks : ℕ) → (delayed : Bool) → Run Front Back
amplified blocks delayed =
    run_of
    (session_of 4 blocks 8 (inst_of (codes "c") const_decl ∷ inst_of (codes "g") amp_decl ∷ [])
    (set_of 0 (codes "value") half ∷ set_of 1 (codes "gain") half ∷ [])
    (cable_of 0 (codes "out") 1 (codes "in") delayed ∷ [])
    (out_of 1 (codes "out") ∷ []))
    (const_decl ∷ amp_decl ∷ []) (0 ∷ 1 ∷ [])

-- three blocks of two frames with a job in each
abbrev pub fetching : Run Front Back
fetching = run_of (session_of 2 3 8 (inst_of (codes "f") fetch_decl ∷ []) [] [] (out_of 0 (codes "out") ∷ [])) (fetch_decl ∷ []) (0 ∷ [])

-- three jobs at once, where there is room for two
abbrev pub bursting : Run Front Back
bursting = run_of (session_of 1 1 2 (inst_of (codes "b") burst_decl ∷ []) [] [] []) (burst_decl ∷ []) (0 ∷ [])

-- one block with an answer
abbrev pub telling : Run Front Back
telling = run_of (session_of 1 1 1 (inst_of (codes "t") teller_decl ∷ []) [] [] []) (teller_decl ∷ []) (0 ∷ [])

-- ---- records

abbrev pub opened : ℕ → List Entry
opened inst = begin_of Control call.Activate inst ∷ end_of Control call.Activate inst ∷ []

abbrev pub built : ℕ → List Entry
built inst = begin_of Control call.Make inst ∷ end_of Control call.Make inst ∷ []

abbrev pub closed : ℕ → List Entry
closed inst = begin_of Control call.Deactivate inst ∷ end_of Control call.Deactivate inst ∷ []

abbrev pub cleaned : ℕ → List Entry
cleaned inst = begin_of Control call.Cleanup inst ∷ end_of Control call.Cleanup inst ∷ []

-- audio stops after so many blocks, and so does the worker
abbrev pub stopped : ℕ → List Entry
stopped blocks =
    stop_of Audio ∷ beat_of (blocks + 1) ∷ send_of Control (ControlToWorker 1) ∷ take_of (Worker 1) (ControlToWorker 1) ∷ stop_of (Worker 1) ∷ join ∷ []

abbrev pub run_steps : ℕ → List Entry
run_steps inst = begin_of Audio call.Run inst ∷ end_of Audio call.Run inst ∷ []

abbrev pub begun : ℕ → List Entry
begun block = block_of block ∷ look_of Audio ControlToAudio 0 ∷ []

abbrev pub job_steps : List Entry
job_steps =
    take_of (Worker 1) (Jobs 0) ∷ begin_of (Worker 1) call.Work 0 ∷ send_of (Worker 1) (Responses 0) ∷ end_of (Worker 1) call.Work 0 ∷ []

abbrev pub delivery_steps : List Entry
delivery_steps = take_of Audio (Responses 0) ∷ begin_of Audio call.Response 0 ∷ end_of Audio call.Response 0 ∷ []

abbrev pub end_run_steps : List Entry
end_run_steps = begin_of Audio call.EndRun 0 ∷ end_of Audio call.EndRun 0 ∷ []

abbrev pub amplified_block : ℕ → List Entry
amplified_block block = begun block ++ run_steps 0 ++ run_steps 1 ++ done_of block ∷ []

abbrev pub two_opened : List Entry
two_opened = built 0 ++ built 1 ++ opened 0 ++ opened 1

abbrev pub two_closed : List Entry
two_closed = closed 0 ++ closed 1 ++ cleaned 0 ++ cleaned 1 ++ last ∷ []

abbrev pub amplified_steps : List Entry
amplified_steps = two_opened ++ amplified_block 0 ++ amplified_block 1 ++ stopped 2 ++ two_closed

-- no block at all
abbrev pub empty_steps : List Entry
empty_steps = two_opened ++ stopped 0 ++ two_closed

abbrev pub fetching_block : ℕ → List Entry
fetching_block block =
    begun block
    ++ (begin_of Audio call.Run 0 ∷ send_of Audio (Jobs 0) ∷ end_of Audio call.Run 0 ∷ [])
    ++ job_steps
    ++ look_of Audio (Responses 0) 1 ∷ delivery_steps ++ end_run_steps ++ done_of block ∷ []

abbrev pub fetching_steps : List Entry
fetching_steps =
    built 0 ++ opened 0 ++ fetching_block 0 ++ fetching_block 1 ++ fetching_block 2 ++ stopped 3 ++ closed 0 ++ cleaned 0 ++ last ∷ []

abbrev pub bursting_steps : List Entry
bursting_steps =
    built 0
    ++ opened 0
    ++ begun 0
    ++ (begin_of Audio call.Run 0 ∷ send_of Audio (Jobs 0) ∷ send_of Audio (Jobs 0) ∷ full_of Audio (Jobs 0) ∷ end_of Audio call.Run 0 ∷ [])
    ++ job_steps
    ++ job_steps
    ++ (look_of Audio (Responses 0) 2 ∷ [])
    ++ delivery_steps
    ++ delivery_steps
    ++ end_run_steps
    ++ (done_of 0 ∷ [])
    ++ stopped 1
    ++ closed 0
    ++ cleaned 0
    ++ (last ∷ [])

abbrev pub telling_steps : List Entry
telling_steps =
    built 0
    ++ opened 0
    ++ begun 0
    ++ run_steps 0
    ++ (send_of Audio AudioToControl ∷ done_of 0 ∷ stop_of Audio ∷ take_of Control AudioToControl ∷ [])
    ++ (beat_of 2 ∷ send_of Control (ControlToWorker 1) ∷ take_of (Worker 1) (ControlToWorker 1) ∷ stop_of (Worker 1) ∷ join ∷ [])
    ++ closed 0
    ++ cleaned 0
    ++ (last ∷ [])
