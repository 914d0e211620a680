-- A worked record: a job in a block, and a restore with both parts of the instance. What is expected of its copies was worked out by a program
-- of its own from the table of rules.
use Rattle.std.specs.Prelude.{true, false, List, [], ◌∷◌}
use Rattle.step_law.specs.declared.actor.Actor.TheVariants.{Audio, Control, Worker}
use Rattle.step_law.specs.declared.call.Call.TheVariants.{Run, Response, EndRun, Work, Make, Activate, Deactivate, Cleanup, Restore}
use Rattle.step_law.specs.declared.entry.Entry.{Entry}
use Rattle.step_law.specs.declared.ring.Ring.TheVariants.{ControlToAudio, AudioToControl, ControlToWorker, WorkerToControl, Jobs, Responses}
use Rattle.step_law.specs.Entry.{block_of, done_of, look_of, take_of, send_of, begin_of, end_of, stop_of, beat_of, join, last}
use Rattle.record_law.specs.declared.shape.Shape.{Shape}
use Rattle.record_law.specs.declared.shape.ActionKind.TheVariants as kind
use Rattle.record_law.specs.declared.shape.Broken.TheVariants.{Syntax, Order, Ring, Look, End}
use Rattle.record_law.specs.Case.{Case, breaks, keeps, drop_line, double_line, swap_lines, put_line, shape_of, inst_of, action_of}

abbrev pub session : Shape
session = shape_of 2 2 1 (0 ∷ []) (inst_of 1 true false ∷ []) (action_of 1 kind.Restore 0 ∷ [])

abbrev pub steps : List Entry
steps =
    begin_of Control Make 0 ∷ end_of Control Make 0 ∷ begin_of Control Activate 0 ∷ end_of Control Activate 0 ∷ block_of 0 ∷
    look_of Audio ControlToAudio 0 ∷ begin_of Audio Run 0 ∷ send_of Audio (Jobs 0) ∷ end_of Audio Run 0 ∷ take_of (Worker 1) (Jobs 0) ∷
    begin_of (Worker 1) Work 0 ∷ send_of (Worker 1) (Responses 0) ∷ end_of (Worker 1) Work 0 ∷ look_of Audio (Responses 0) 1 ∷
    take_of Audio (Responses 0) ∷ begin_of Audio Response 0 ∷ end_of Audio Response 0 ∷ begin_of Audio EndRun 0 ∷ end_of Audio EndRun 0 ∷
    done_of 0 ∷ beat_of 1 ∷ send_of Control ControlToAudio ∷ block_of 1 ∷ look_of Audio ControlToAudio 1 ∷ take_of Audio ControlToAudio ∷
    send_of Audio AudioToControl ∷ done_of 1 ∷ stop_of Audio ∷ take_of Control AudioToControl ∷ send_of Control (ControlToWorker 1) ∷
    take_of (Worker 1) (ControlToWorker 1) ∷ send_of (Worker 1) (WorkerToControl 1) ∷ take_of Control (WorkerToControl 1) ∷
    begin_of Control Restore 0 ∷ end_of Control Restore 0 ∷ send_of Control (ControlToWorker 1) ∷ send_of Control ControlToAudio ∷
    beat_of 3 ∷ send_of Control (ControlToWorker 1) ∷ take_of (Worker 1) (ControlToWorker 1) ∷ take_of (Worker 1) (ControlToWorker 1) ∷
    stop_of (Worker 1) ∷ join ∷ begin_of Control Deactivate 0 ∷ end_of Control Deactivate 0 ∷ begin_of Control Cleanup 0 ∷
    end_of Control Cleanup 0 ∷ last ∷ []

-- each altered copy, with the line and the rule of its first violation
abbrev pub cases : List Case
cases =
    breaks (double_line 3) 4 Order ∷ breaks (double_line 4) 5 Order ∷ breaks (drop_line 9) 10 Ring ∷ breaks (double_line 9) 44 Order ∷
    keeps (swap_lines 10) ∷ keeps (swap_lines 14) ∷ breaks (put_line 15 (look_of Audio (Responses 0) 2)) 16 Look ∷
    breaks (put_line 15 (look_of Audio (Responses 0) 0)) 15 Look ∷ breaks (drop_line 19) 19 Order ∷ breaks (drop_line 20) 20 Order ∷
    breaks (drop_line 21) 22 Look ∷ breaks (put_line 22 (beat_of 2)) 23 Look ∷ breaks (put_line 24 (block_of 2)) 24 Order ∷
    keeps (swap_lines 29) ∷ breaks (double_line 30) 31 Ring ∷ breaks (drop_line 32) 32 Order ∷
    breaks (put_line 32 (take_of (Worker 2) (ControlToWorker 1))) 32 Syntax ∷ breaks (drop_line 33) 33 Ring ∷
    breaks (put_line 34 (take_of Control (WorkerToControl 2))) 34 Syntax ∷ keeps (swap_lines 40) ∷ breaks (double_line 42) 43 Ring ∷
    breaks (put_line 43 (stop_of (Worker 2))) 43 Syntax ∷ breaks (drop_line 48) 48 End ∷ breaks (drop_line 49) 49 End ∷ []
