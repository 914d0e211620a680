-- The one-thread record of a session: an instance that schedules a job in each of three blocks.
use Rattle.std.specs.Prelude.{true, false, List, [], ◌∷◌}
use Rattle.step_law.specs.declared.actor.Actor.TheVariants.{Audio, Control, Worker}
use Rattle.step_law.specs.declared.call.Call.TheVariants.{Run, Response, EndRun, Work, Make, Activate, Deactivate, Cleanup}
use Rattle.step_law.specs.declared.entry.Entry.{Entry}
use Rattle.step_law.specs.declared.ring.Ring.TheVariants.{ControlToAudio, ControlToWorker, Jobs, Responses}
use Rattle.step_law.specs.Entry.{block_of, done_of, look_of, take_of, send_of, begin_of, end_of, stop_of, beat_of, join, last}
use Rattle.record_law.specs.declared.shape.Shape.{Shape}
use Rattle.record_law.specs.declared.shape.Broken.TheVariants.{Syntax, Order, Ring, Look, End}
use Rattle.record_law.specs.Case.{Case, breaks, keeps, drop_line, double_line, swap_lines, put_line, move_lines, shape_of, inst_of}

abbrev pub session : Shape
session = shape_of 3 8 1 (0 ∷ []) (inst_of 1 true false ∷ []) ([])

abbrev pub steps : List Entry
steps =
    begin_of Control Make 0 ∷ end_of Control Make 0 ∷ begin_of Control Activate 0 ∷ end_of Control Activate 0 ∷ block_of 0 ∷
    look_of Audio ControlToAudio 0 ∷ begin_of Audio Run 0 ∷ send_of Audio (Jobs 0) ∷ end_of Audio Run 0 ∷ take_of (Worker 1) (Jobs 0) ∷
    begin_of (Worker 1) Work 0 ∷ send_of (Worker 1) (Responses 0) ∷ end_of (Worker 1) Work 0 ∷ look_of Audio (Responses 0) 1 ∷
    take_of Audio (Responses 0) ∷ begin_of Audio Response 0 ∷ end_of Audio Response 0 ∷ begin_of Audio EndRun 0 ∷ end_of Audio EndRun 0 ∷
    done_of 0 ∷ block_of 1 ∷ look_of Audio ControlToAudio 0 ∷ begin_of Audio Run 0 ∷ send_of Audio (Jobs 0) ∷ end_of Audio Run 0 ∷
    take_of (Worker 1) (Jobs 0) ∷ begin_of (Worker 1) Work 0 ∷ send_of (Worker 1) (Responses 0) ∷ end_of (Worker 1) Work 0 ∷
    look_of Audio (Responses 0) 1 ∷ take_of Audio (Responses 0) ∷ begin_of Audio Response 0 ∷ end_of Audio Response 0 ∷
    begin_of Audio EndRun 0 ∷ end_of Audio EndRun 0 ∷ done_of 1 ∷ block_of 2 ∷ look_of Audio ControlToAudio 0 ∷ begin_of Audio Run 0 ∷
    send_of Audio (Jobs 0) ∷ end_of Audio Run 0 ∷ take_of (Worker 1) (Jobs 0) ∷ begin_of (Worker 1) Work 0 ∷
    send_of (Worker 1) (Responses 0) ∷ end_of (Worker 1) Work 0 ∷ look_of Audio (Responses 0) 1 ∷ take_of Audio (Responses 0) ∷
    begin_of Audio Response 0 ∷ end_of Audio Response 0 ∷ begin_of Audio EndRun 0 ∷ end_of Audio EndRun 0 ∷ done_of 2 ∷ stop_of Audio ∷
    beat_of 4 ∷ send_of Control (ControlToWorker 1) ∷ take_of (Worker 1) (ControlToWorker 1) ∷ stop_of (Worker 1) ∷ join ∷
    begin_of Control Deactivate 0 ∷ end_of Control Deactivate 0 ∷ begin_of Control Cleanup 0 ∷ end_of Control Cleanup 0 ∷ last ∷ []

-- each altered copy, with the line and the rule of its first violation
abbrev pub cases : List Case
cases =
    breaks (double_line 4) 5 Order ∷ breaks (drop_line 5) 5 Order ∷ breaks (swap_lines 6) 6 Order ∷ breaks (double_line 8) 9 Order ∷
    breaks (drop_line 9) 10 Ring ∷ breaks (double_line 9) 59 Order ∷ keeps (swap_lines 10) ∷
    breaks (put_line 11 (take_of (Worker 2) (Jobs 0))) 11 Syntax ∷ breaks (put_line 12 (begin_of (Worker 1) Work 1)) 12 Syntax ∷
    breaks (drop_line 13) 15 Ring ∷ breaks (double_line 13) 16 Look ∷ keeps (swap_lines 14) ∷
    breaks (put_line 15 (look_of Audio (Responses 0) 2)) 16 Look ∷ breaks (put_line 15 (look_of Audio (Responses 0) 0)) 15 Look ∷
    breaks (drop_line 16) 16 Order ∷ breaks (double_line 16) 17 Order ∷ breaks (swap_lines 20) 20 Order ∷
    breaks (put_line 24 (begin_of Audio Run 1)) 24 Syntax ∷ breaks (drop_line 25) 26 Ring ∷ keeps (swap_lines 26) ∷
    breaks (drop_line 28) 28 Order ∷ breaks (drop_line 29) 31 Ring ∷ breaks (double_line 29) 32 Look ∷ breaks (double_line 30) 31 Order ∷
    keeps (swap_lines 30) ∷ breaks (drop_line 31) 31 Order ∷ breaks (double_line 31) 32 Order ∷
    breaks (put_line 31 (look_of Audio (Responses 0) 2)) 32 Look ∷ breaks (put_line 31 (look_of Audio (Responses 0) 0)) 31 Look ∷
    breaks (drop_line 34) 34 Order ∷ breaks (drop_line 35) 35 Order ∷ breaks (double_line 35) 36 Order ∷
    breaks (put_line 35 (begin_of Audio EndRun 1)) 35 Syntax ∷ breaks (swap_lines 36) 36 Order ∷ breaks (swap_lines 38) 38 Order ∷
    breaks (put_line 38 (block_of 3)) 38 Order ∷ breaks (drop_line 41) 42 Ring ∷ breaks (swap_lines 41) 42 Order ∷ keeps (swap_lines 42) ∷
    breaks (double_line 43) 44 Order ∷ breaks (drop_line 45) 47 Ring ∷ breaks (double_line 45) 48 Look ∷
    breaks (put_line 45 (send_of (Worker 2) (Responses 0))) 45 Syntax ∷ keeps (swap_lines 46) ∷ breaks (drop_line 47) 47 Order ∷
    breaks (put_line 47 (look_of Audio (Responses 0) 2)) 48 Look ∷ breaks (put_line 47 (look_of Audio (Responses 0) 0)) 47 Look ∷
    breaks (drop_line 49) 49 Order ∷ breaks (put_line 49 (begin_of Audio Response 1)) 49 Syntax ∷ breaks (double_line 50) 51 Order ∷
    breaks (double_line 52) 53 Order ∷ breaks (double_line 53) 54 Order ∷ breaks (drop_line 54) 55 Look ∷ keeps (swap_lines 54) ∷
    breaks (drop_line 56) 56 Ring ∷ breaks (swap_lines 56) 56 Ring ∷ breaks (double_line 57) 58 Ring ∷ breaks (drop_line 63) 63 End ∷
    breaks (drop_line 64) 64 End ∷ breaks (double_line 64) 64 Syntax ∷ breaks (move_lines 16 18 20) 16 Order ∷
    breaks (drop_line 64) 64 End ∷ []
