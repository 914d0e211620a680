-- The one-thread record of a session: a restore with both parts of an instance, at block 2 of 4.
use Rattle.std.specs.Prelude.{false, List, [], ◌∷◌}
use Rattle.step_law.specs.declared.actor.Actor.TheVariants.{Audio, Control, Worker}
use Rattle.step_law.specs.declared.call.Call.TheVariants.{Run, Make, Activate, Deactivate, Cleanup, Restore}
use Rattle.step_law.specs.declared.entry.Entry.{Entry}
use Rattle.step_law.specs.declared.ring.Ring.TheVariants.{ControlToAudio, AudioToControl, ControlToWorker, WorkerToControl}
use Rattle.step_law.specs.Entry.{block_of, done_of, look_of, take_of, send_of, begin_of, end_of, stop_of, beat_of, join, last}
use Rattle.record_law.specs.declared.shape.Shape.{Shape}
use Rattle.record_law.specs.declared.shape.ActionKind.TheVariants as kind
use Rattle.record_law.specs.declared.shape.Broken.TheVariants.{Syntax, Order, Ring, Look, End}
use Rattle.record_law.specs.Case.{Case, breaks, keeps, drop_line, double_line, swap_lines, put_line, shape_of, inst_of, action_of}

abbrev pub session : Shape
session = shape_of 4 8 1 (0 ∷ []) (inst_of 1 false false ∷ []) (action_of 2 kind.Restore 0 ∷ [])

abbrev pub steps : List Entry
steps =
    begin_of Control Make 0 ∷ end_of Control Make 0 ∷ begin_of Control Activate 0 ∷ end_of Control Activate 0 ∷ block_of 0 ∷
    look_of Audio ControlToAudio 0 ∷ begin_of Audio Run 0 ∷ end_of Audio Run 0 ∷ done_of 0 ∷ block_of 1 ∷ look_of Audio ControlToAudio 0 ∷
    begin_of Audio Run 0 ∷ end_of Audio Run 0 ∷ done_of 1 ∷ beat_of 2 ∷ send_of Control ControlToAudio ∷ block_of 2 ∷
    look_of Audio ControlToAudio 1 ∷ take_of Audio ControlToAudio ∷ send_of Audio AudioToControl ∷ done_of 2 ∷
    take_of Control AudioToControl ∷ send_of Control (ControlToWorker 1) ∷ take_of (Worker 1) (ControlToWorker 1) ∷
    send_of (Worker 1) (WorkerToControl 1) ∷ take_of Control (WorkerToControl 1) ∷ begin_of Control Restore 0 ∷ end_of Control Restore 0 ∷
    send_of Control (ControlToWorker 1) ∷ send_of Control ControlToAudio ∷ take_of (Worker 1) (ControlToWorker 1) ∷ block_of 3 ∷
    look_of Audio ControlToAudio 1 ∷ take_of Audio ControlToAudio ∷ begin_of Audio Run 0 ∷ end_of Audio Run 0 ∷ done_of 3 ∷ stop_of Audio ∷
    beat_of 5 ∷ send_of Control (ControlToWorker 1) ∷ take_of (Worker 1) (ControlToWorker 1) ∷ stop_of (Worker 1) ∷ join ∷
    begin_of Control Deactivate 0 ∷ end_of Control Deactivate 0 ∷ begin_of Control Cleanup 0 ∷ end_of Control Cleanup 0 ∷ last ∷ []

-- each altered copy, with the line and the rule of its first violation
abbrev pub cases : List Case
cases =
    breaks (double_line 3) 4 Order ∷ breaks (double_line 7) 8 Order ∷ breaks (double_line 8) 9 Order ∷ breaks (swap_lines 8) 8 Order ∷
    breaks (double_line 9) 10 Order ∷ breaks (put_line 10 (done_of 1)) 10 Order ∷ breaks (swap_lines 13) 13 Order ∷
    breaks (put_line 13 (begin_of Audio Run 1)) 13 Syntax ∷ breaks (drop_line 15) 16 Look ∷ keeps (swap_lines 15) ∷
    breaks (put_line 15 (done_of 0)) 15 Order ∷ breaks (swap_lines 16) 16 Order ∷ breaks (put_line 16 (beat_of 3)) 17 Look ∷
    breaks (drop_line 17) 19 Ring ∷ keeps (swap_lines 17) ∷ breaks (double_line 18) 19 Order ∷ breaks (put_line 18 (block_of 1)) 18 Order ∷
    breaks (drop_line 19) 19 Order ∷ breaks (double_line 19) 20 Order ∷ breaks (put_line 19 (look_of Audio ControlToAudio 2)) 20 Look ∷
    breaks (drop_line 21) 21 Order ∷ keeps (swap_lines 22) ∷ breaks (put_line 22 (done_of 3)) 22 Order ∷ breaks (double_line 23) 24 Ring ∷
    breaks (swap_lines 23) 23 Order ∷ breaks (drop_line 24) 24 Ring ∷ breaks (swap_lines 24) 24 Ring ∷ breaks (drop_line 26) 26 Ring ∷
    breaks (swap_lines 26) 26 Ring ∷ breaks (swap_lines 27) 27 Order ∷ breaks (swap_lines 28) 28 Order ∷ breaks (double_line 30) 31 Order ∷
    breaks (drop_line 31) 34 Ring ∷ keeps (swap_lines 31) ∷ breaks (double_line 32) 33 Ring ∷ keeps (swap_lines 32) ∷
    breaks (put_line 32 (take_of (Worker 2) (ControlToWorker 1))) 32 Syntax ∷
    breaks (put_line 32 (take_of (Worker 1) (ControlToWorker 2))) 32 Syntax ∷ breaks (swap_lines 33) 33 Order ∷
    breaks (put_line 33 (block_of 2)) 33 Order ∷ breaks (drop_line 34) 34 Order ∷
    breaks (put_line 34 (look_of Audio ControlToAudio 2)) 35 Look ∷ breaks (put_line 34 (look_of Audio ControlToAudio 0)) 35 Order ∷
    breaks (drop_line 36) 36 Order ∷ breaks (put_line 37 (end_of Audio Run 1)) 37 Syntax ∷ breaks (double_line 38) 39 Order ∷
    breaks (put_line 38 (done_of 2)) 38 Order ∷ breaks (drop_line 39) 40 Look ∷ keeps (swap_lines 39) ∷ breaks (drop_line 41) 41 Ring ∷
    breaks (swap_lines 41) 41 Ring ∷ breaks (double_line 42) 43 Ring ∷
    breaks (put_line 42 (take_of (Worker 2) (ControlToWorker 1))) 42 Syntax ∷ breaks (swap_lines 44) 44 Order ∷
    breaks (drop_line 45) 45 Order ∷ breaks (put_line 45 (begin_of Control Deactivate 1)) 45 Syntax ∷ breaks (double_line 47) 48 Order ∷
    breaks (drop_line 48) 48 End ∷ breaks (drop_line 49) 49 End ∷ breaks (double_line 49) 49 Syntax ∷ []
