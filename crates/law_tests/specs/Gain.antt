-- The one-thread record of a session: two instances without workers, two blocks.
use Rattle.std.specs.Prelude.{false, List, [], ◌∷◌}
use Rattle.step_law.specs.declared.actor.Actor.TheVariants.{Audio, Control, Worker}
use Rattle.step_law.specs.declared.call.Call.TheVariants.{Run, Make, Activate, Deactivate, Cleanup}
use Rattle.step_law.specs.declared.entry.Entry.{Entry}
use Rattle.step_law.specs.declared.ring.Ring.TheVariants.{ControlToAudio, ControlToWorker}
use Rattle.step_law.specs.Entry.{block_of, done_of, look_of, take_of, send_of, begin_of, end_of, stop_of, beat_of, join, last}
use Rattle.record_law.specs.declared.shape.Shape.{Shape}
use Rattle.record_law.specs.declared.shape.Broken.TheVariants.{Syntax, Order, Ring, Look, End}
use Rattle.record_law.specs.Case.{Case, breaks, keeps, drop_line, double_line, swap_lines, put_line, shape_of, inst_of}

abbrev pub session : Shape
session = shape_of 2 8 1 (0 ∷ 1 ∷ []) (inst_of 1 false false ∷ inst_of 1 false false ∷ []) ([])

abbrev pub steps : List Entry
steps =
    begin_of Control Make 0 ∷ end_of Control Make 0 ∷ begin_of Control Make 1 ∷ end_of Control Make 1 ∷ begin_of Control Activate 0 ∷
    end_of Control Activate 0 ∷ begin_of Control Activate 1 ∷ end_of Control Activate 1 ∷ block_of 0 ∷ look_of Audio ControlToAudio 0 ∷
    begin_of Audio Run 0 ∷ end_of Audio Run 0 ∷ begin_of Audio Run 1 ∷ end_of Audio Run 1 ∷ done_of 0 ∷ block_of 1 ∷
    look_of Audio ControlToAudio 0 ∷ begin_of Audio Run 0 ∷ end_of Audio Run 0 ∷ begin_of Audio Run 1 ∷ end_of Audio Run 1 ∷ done_of 1 ∷
    stop_of Audio ∷ beat_of 3 ∷ send_of Control (ControlToWorker 1) ∷ take_of (Worker 1) (ControlToWorker 1) ∷ stop_of (Worker 1) ∷ join ∷
    begin_of Control Deactivate 0 ∷ end_of Control Deactivate 0 ∷ begin_of Control Deactivate 1 ∷ end_of Control Deactivate 1 ∷
    begin_of Control Cleanup 0 ∷ end_of Control Cleanup 0 ∷ begin_of Control Cleanup 1 ∷ end_of Control Cleanup 1 ∷ last ∷ []

-- each altered copy, with the line and the rule of its first violation
abbrev pub cases : List Case
cases =
    breaks (drop_line 2) 2 Order ∷ breaks (double_line 2) 3 Order ∷ breaks (swap_lines 3) 3 Order ∷
    breaks (put_line 3 (end_of Control Make 1)) 3 Order ∷ breaks (drop_line 4) 4 Order ∷
    breaks (put_line 4 (begin_of Control Make 2)) 4 Syntax ∷ breaks (swap_lines 5) 5 Order ∷
    breaks (put_line 5 (end_of Control Make 2)) 5 Syntax ∷ breaks (double_line 6) 7 Order ∷ breaks (drop_line 8) 8 Order ∷
    breaks (swap_lines 8) 8 Order ∷ breaks (swap_lines 9) 9 Order ∷ breaks (put_line 9 (end_of Control Activate 2)) 9 Syntax ∷
    breaks (put_line 9 (end_of Control Activate 0)) 9 Order ∷ breaks (put_line 10 (block_of 1)) 10 Order ∷
    breaks (double_line 11) 12 Order ∷ breaks (put_line 11 (look_of Audio ControlToAudio 1)) 12 Order ∷ breaks (drop_line 13) 13 Order ∷
    breaks (double_line 14) 15 Order ∷ breaks (drop_line 15) 15 Order ∷ breaks (double_line 15) 16 Order ∷ breaks (drop_line 17) 17 Order ∷
    breaks (put_line 17 (block_of 0)) 17 Order ∷ breaks (double_line 18) 19 Order ∷ breaks (double_line 19) 20 Order ∷
    breaks (swap_lines 19) 19 Order ∷ breaks (put_line 19 (begin_of Audio Run 1)) 19 Order ∷ breaks (drop_line 20) 20 Order ∷
    breaks (drop_line 21) 21 Order ∷ breaks (double_line 21) 22 Order ∷ breaks (put_line 21 (begin_of Audio Run 2)) 21 Syntax ∷
    breaks (put_line 21 (begin_of Audio Run 0)) 21 Order ∷ breaks (double_line 22) 23 Order ∷ breaks (swap_lines 22) 22 Order ∷
    breaks (swap_lines 23) 23 Order ∷ breaks (put_line 23 (done_of 0)) 23 Order ∷ breaks (drop_line 24) 25 Look ∷ keeps (swap_lines 24) ∷
    breaks (drop_line 26) 26 Ring ∷ breaks (swap_lines 26) 26 Ring ∷ breaks (drop_line 27) 27 Order ∷ breaks (double_line 27) 28 Ring ∷
    breaks (swap_lines 27) 27 Order ∷ breaks (swap_lines 28) 28 Order ∷ breaks (put_line 28 (stop_of (Worker 2))) 28 Syntax ∷
    breaks (drop_line 29) 29 Order ∷ breaks (put_line 30 (begin_of Control Deactivate 1)) 30 Order ∷ breaks (double_line 31) 32 Order ∷
    breaks (put_line 31 (end_of Control Deactivate 1)) 31 Order ∷ breaks (drop_line 32) 32 Order ∷
    breaks (put_line 32 (begin_of Control Deactivate 0)) 32 Order ∷ breaks (drop_line 34) 34 Order ∷ breaks (double_line 34) 35 Order ∷
    breaks (double_line 35) 36 Order ∷ breaks (swap_lines 35) 35 Order ∷ breaks (put_line 36 (begin_of Control Cleanup 0)) 36 Order ∷
    breaks (drop_line 37) 37 End ∷ breaks (swap_lines 37) 37 Syntax ∷ breaks (drop_line 38) 38 End ∷ breaks (double_line 38) 38 Syntax ∷ []
