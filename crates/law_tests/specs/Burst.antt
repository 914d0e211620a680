-- The one-thread record of a session: an instance that schedules three jobs in a block, with two cells.
use Rattle.std.specs.Prelude.{true, false, List, [], ◌∷◌}
use Rattle.step_law.specs.declared.actor.Actor.TheVariants.{Audio, Control, Worker}
use Rattle.step_law.specs.declared.call.Call.TheVariants.{Run, Response, EndRun, Work, Make, Activate, Deactivate, Cleanup}
use Rattle.step_law.specs.declared.entry.Entry.{Entry}
use Rattle.step_law.specs.declared.ring.Ring.TheVariants.{ControlToAudio, ControlToWorker, Jobs, Responses}
use Rattle.step_law.specs.Entry.{block_of, done_of, look_of, take_of, send_of, full_of, begin_of, end_of, stop_of, beat_of, join, last}
use Rattle.record_law.specs.declared.shape.Shape.{Shape}
use Rattle.record_law.specs.declared.shape.Broken.TheVariants.{Syntax, Order, Ring, Full, Look, End}
use Rattle.record_law.specs.Case.{Case, breaks, keeps, drop_line, double_line, swap_lines, put_line, shape_of, inst_of}

abbrev pub session : Shape
session = shape_of 1 2 1 (0 ∷ []) (inst_of 1 true false ∷ []) ([])

abbrev pub steps : List Entry
steps =
    begin_of Control Make 0 ∷ end_of Control Make 0 ∷ begin_of Control Activate 0 ∷ end_of Control Activate 0 ∷ block_of 0 ∷
    look_of Audio ControlToAudio 0 ∷ begin_of Audio Run 0 ∷ send_of Audio (Jobs 0) ∷ send_of Audio (Jobs 0) ∷ full_of Audio (Jobs 0) ∷
    end_of Audio Run 0 ∷ take_of (Worker 1) (Jobs 0) ∷ begin_of (Worker 1) Work 0 ∷ send_of (Worker 1) (Responses 0) ∷
    end_of (Worker 1) Work 0 ∷ take_of (Worker 1) (Jobs 0) ∷ begin_of (Worker 1) Work 0 ∷ send_of (Worker 1) (Responses 0) ∷
    end_of (Worker 1) Work 0 ∷ look_of Audio (Responses 0) 2 ∷ take_of Audio (Responses 0) ∷ begin_of Audio Response 0 ∷
    end_of Audio Response 0 ∷ take_of Audio (Responses 0) ∷ begin_of Audio Response 0 ∷ end_of Audio Response 0 ∷ begin_of Audio EndRun 0 ∷
    end_of Audio EndRun 0 ∷ done_of 0 ∷ stop_of Audio ∷ beat_of 2 ∷ send_of Control (ControlToWorker 1) ∷
    take_of (Worker 1) (ControlToWorker 1) ∷ stop_of (Worker 1) ∷ join ∷ begin_of Control Deactivate 0 ∷ end_of Control Deactivate 0 ∷
    begin_of Control Cleanup 0 ∷ end_of Control Cleanup 0 ∷ last ∷ []

-- each altered copy, with the line and the rule of its first violation
abbrev pub cases : List Case
cases =
    breaks (swap_lines 4) 4 Order ∷ breaks (double_line 5) 6 Order ∷ breaks (put_line 5 (end_of Control Activate 1)) 5 Syntax ∷
    breaks (double_line 6) 7 Order ∷ breaks (put_line 6 (block_of 1)) 6 Order ∷
    breaks (put_line 7 (look_of Audio ControlToAudio 1)) 8 Order ∷ breaks (drop_line 8) 8 Order ∷ breaks (double_line 8) 9 Order ∷
    breaks (drop_line 9) 10 Full ∷ breaks (double_line 9) 36 Order ∷ breaks (put_line 9 (send_of Audio (Jobs 1))) 9 Syntax ∷
    breaks (drop_line 10) 10 Full ∷ breaks (swap_lines 10) 10 Full ∷ keeps (drop_line 11) ∷ keeps (double_line 11) ∷
    breaks (swap_lines 11) 12 Order ∷ breaks (double_line 12) 13 Order ∷ keeps (swap_lines 12) ∷
    breaks (put_line 13 (take_of (Worker 1) (Jobs 1))) 13 Syntax ∷ breaks (drop_line 15) 21 Look ∷ breaks (double_line 15) 22 Look ∷
    breaks (swap_lines 15) 16 Order ∷ breaks (put_line 15 (send_of (Worker 1) (Responses 1))) 15 Syntax ∷ breaks (drop_line 16) 16 Order ∷
    breaks (drop_line 18) 18 Order ∷ breaks (drop_line 19) 21 Look ∷ breaks (double_line 19) 22 Look ∷ breaks (drop_line 20) 33 Order ∷
    keeps (swap_lines 20) ∷ breaks (double_line 21) 22 Order ∷ breaks (put_line 21 (look_of Audio (Responses 0) 3)) 22 Look ∷
    breaks (put_line 21 (look_of Audio (Responses 0) 1)) 21 Look ∷ breaks (drop_line 23) 23 Order ∷ breaks (double_line 23) 24 Order ∷
    breaks (swap_lines 23) 23 Order ∷ breaks (drop_line 24) 24 Order ∷ breaks (put_line 24 (end_of Audio Response 1)) 24 Syntax ∷
    breaks (swap_lines 25) 25 Order ∷ breaks (drop_line 28) 28 Order ∷ breaks (swap_lines 28) 28 Order ∷ breaks (double_line 30) 31 Order ∷
    breaks (drop_line 31) 32 Look ∷ breaks (double_line 31) 32 Order ∷ keeps (swap_lines 31) ∷ breaks (double_line 32) 33 Order ∷
    breaks (drop_line 33) 33 Ring ∷ breaks (double_line 33) 34 Order ∷ breaks (swap_lines 33) 33 Ring ∷ breaks (drop_line 34) 34 Order ∷
    breaks (double_line 34) 35 Ring ∷ breaks (drop_line 35) 35 Order ∷ breaks (drop_line 36) 36 Order ∷ breaks (swap_lines 36) 36 Order ∷
    breaks (drop_line 38) 38 Order ∷ breaks (swap_lines 38) 38 Order ∷ breaks (put_line 38 (end_of Control Deactivate 1)) 38 Syntax ∷
    breaks (drop_line 40) 40 End ∷ breaks (double_line 40) 41 Order ∷ breaks (drop_line 41) 41 End ∷ breaks (double_line 41) 41 Syntax ∷
    breaks (put_line 9 (full_of Audio (Jobs 0))) 9 Full ∷ []
