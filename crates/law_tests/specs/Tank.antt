-- The one-thread record of a session: a save, a thread-safe restore and a save.
use Rattle.std.specs.Prelude.{true, List, [], ◌∷◌}
use Rattle.step_law.specs.declared.actor.Actor.TheVariants.{Audio, Control, Worker}
use Rattle.step_law.specs.declared.call.Call.TheVariants.{Run, Response, EndRun, Work, Save, RestoreSafe, Make, Activate, Deactivate, Cleanup}
use Rattle.step_law.specs.declared.entry.Entry.{Entry}
use Rattle.step_law.specs.declared.ring.Ring.TheVariants.{ControlToAudio, ControlToWorker, WorkerToControl, Responses, LocalJobs}
use Rattle.step_law.specs.Entry.{block_of, done_of, look_of, take_of, send_of, begin_of, end_of, stop_of, beat_of, join, last}
use Rattle.record_law.specs.declared.shape.Shape.{Shape}
use Rattle.record_law.specs.declared.shape.ActionKind.TheVariants as kind
use Rattle.record_law.specs.declared.shape.Broken.TheVariants.{Syntax, Order, Ring, Look, End}
use Rattle.record_law.specs.Case.{Case, breaks, keeps, drop_line, double_line, swap_lines, put_line, shape_of, inst_of, action_of}

abbrev pub session : Shape
session = shape_of 3 8 1 (0 ∷ []) (inst_of 1 true true ∷ []) (action_of 0 kind.Save 0 ∷ action_of 1 kind.RestoreSafe 0 ∷ action_of 2 kind.Save 0 ∷ [])

abbrev pub steps : List Entry
steps =
    begin_of Control Make 0 ∷ end_of Control Make 0 ∷ begin_of Control Activate 0 ∷ end_of Control Activate 0 ∷ beat_of 0 ∷
    send_of Control (ControlToWorker 1) ∷ take_of (Worker 1) (ControlToWorker 1) ∷ begin_of (Worker 1) Save 0 ∷ end_of (Worker 1) Save 0 ∷
    send_of (Worker 1) (WorkerToControl 1) ∷ take_of Control (WorkerToControl 1) ∷ block_of 0 ∷ look_of Audio ControlToAudio 0 ∷
    begin_of Audio Run 0 ∷ end_of Audio Run 0 ∷ look_of Audio (Responses 0) 0 ∷ begin_of Audio EndRun 0 ∷ end_of Audio EndRun 0 ∷
    done_of 0 ∷ beat_of 1 ∷ send_of Control (ControlToWorker 1) ∷ take_of (Worker 1) (ControlToWorker 1) ∷
    begin_of (Worker 1) RestoreSafe 0 ∷ send_of (Worker 1) (LocalJobs 0) ∷ end_of (Worker 1) RestoreSafe 0 ∷
    take_of (Worker 1) (LocalJobs 0) ∷ begin_of (Worker 1) Work 0 ∷ send_of (Worker 1) (Responses 0) ∷ end_of (Worker 1) Work 0 ∷
    send_of (Worker 1) (WorkerToControl 1) ∷ take_of Control (WorkerToControl 1) ∷ block_of 1 ∷ look_of Audio ControlToAudio 0 ∷
    begin_of Audio Run 0 ∷ end_of Audio Run 0 ∷ look_of Audio (Responses 0) 1 ∷ take_of Audio (Responses 0) ∷ begin_of Audio Response 0 ∷
    end_of Audio Response 0 ∷ begin_of Audio EndRun 0 ∷ end_of Audio EndRun 0 ∷ done_of 1 ∷ beat_of 2 ∷
    send_of Control (ControlToWorker 1) ∷ take_of (Worker 1) (ControlToWorker 1) ∷ begin_of (Worker 1) Save 0 ∷ end_of (Worker 1) Save 0 ∷
    send_of (Worker 1) (WorkerToControl 1) ∷ take_of Control (WorkerToControl 1) ∷ block_of 2 ∷ look_of Audio ControlToAudio 0 ∷
    begin_of Audio Run 0 ∷ end_of Audio Run 0 ∷ look_of Audio (Responses 0) 0 ∷ begin_of Audio EndRun 0 ∷ end_of Audio EndRun 0 ∷
    done_of 2 ∷ stop_of Audio ∷ beat_of 4 ∷ send_of Control (ControlToWorker 1) ∷ take_of (Worker 1) (ControlToWorker 1) ∷
    stop_of (Worker 1) ∷ join ∷ begin_of Control Deactivate 0 ∷ end_of Control Deactivate 0 ∷ begin_of Control Cleanup 0 ∷
    end_of Control Cleanup 0 ∷ last ∷ []

-- each altered copy, with the line and the rule of its first violation
abbrev pub cases : List Case
cases =
    breaks (swap_lines 2) 2 Order ∷ breaks (drop_line 5) 5 Order ∷ breaks (double_line 5) 6 Order ∷ breaks (put_line 6 (beat_of 1)) 7 Look ∷
    breaks (drop_line 7) 7 Ring ∷ breaks (double_line 7) 8 Order ∷ breaks (swap_lines 7) 7 Ring ∷ breaks (swap_lines 9) 9 Order ∷
    breaks (put_line 11 (send_of (Worker 1) (WorkerToControl 2))) 11 Syntax ∷ keeps (swap_lines 12) ∷ breaks (drop_line 15) 15 Order ∷
    breaks (double_line 19) 20 Order ∷ breaks (drop_line 20) 21 Look ∷ breaks (double_line 20) 21 Order ∷ keeps (swap_lines 20) ∷
    breaks (swap_lines 21) 21 Order ∷ breaks (put_line 21 (beat_of 2)) 22 Look ∷ breaks (drop_line 22) 22 Ring ∷
    breaks (swap_lines 22) 22 Ring ∷ breaks (swap_lines 24) 24 Order ∷ breaks (put_line 24 (begin_of (Worker 2) RestoreSafe 0)) 24 Syntax ∷
    breaks (drop_line 25) 26 Order ∷ breaks (drop_line 26) 26 Order ∷ breaks (drop_line 28) 28 Order ∷ breaks (drop_line 29) 37 Ring ∷
    breaks (double_line 29) 38 Look ∷ breaks (double_line 30) 31 Order ∷ breaks (swap_lines 31) 31 Ring ∷ keeps (swap_lines 32) ∷
    breaks (put_line 33 (block_of 2)) 33 Order ∷ breaks (swap_lines 34) 34 Order ∷
    breaks (put_line 37 (look_of Audio (Responses 0) 2)) 38 Look ∷ breaks (put_line 37 (look_of Audio (Responses 0) 0)) 37 Look ∷
    breaks (drop_line 38) 38 Order ∷ breaks (put_line 39 (begin_of Audio Response 1)) 39 Syntax ∷ breaks (double_line 41) 42 Order ∷
    breaks (put_line 42 (end_of Audio EndRun 1)) 42 Syntax ∷ breaks (drop_line 43) 44 Look ∷ keeps (swap_lines 43) ∷
    breaks (put_line 44 (beat_of 3)) 45 Look ∷ breaks (drop_line 45) 45 Ring ∷ breaks (swap_lines 45) 45 Ring ∷
    breaks (drop_line 49) 49 Ring ∷ breaks (swap_lines 49) 49 Ring ∷
    breaks (put_line 49 (send_of (Worker 1) (WorkerToControl 2))) 49 Syntax ∷ keeps (swap_lines 50) ∷ breaks (swap_lines 51) 51 Order ∷
    breaks (swap_lines 52) 52 Order ∷ breaks (drop_line 53) 53 Order ∷ breaks (double_line 57) 58 Order ∷
    breaks (put_line 58 (done_of 1)) 58 Order ∷ breaks (drop_line 59) 60 Look ∷ keeps (swap_lines 59) ∷ breaks (drop_line 61) 61 Ring ∷
    breaks (swap_lines 61) 61 Ring ∷ breaks (put_line 61 (send_of Control (ControlToWorker 2))) 61 Syntax ∷ breaks (drop_line 64) 64 Order ∷
    breaks (drop_line 68) 68 End ∷ breaks (put_line 68 (end_of Control Cleanup 1)) 68 Syntax ∷ breaks (drop_line 69) 69 End ∷ []
