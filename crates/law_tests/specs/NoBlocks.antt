-- The one-thread record of a session: two instances and no block.
use Rattle.std.specs.Prelude.{false, List, [], ◌∷◌}
use Rattle.step_law.specs.declared.actor.Actor.TheVariants.{Audio, Control, Worker}
use Rattle.step_law.specs.declared.call.Call.TheVariants.{Make, Activate, Deactivate, Cleanup}
use Rattle.step_law.specs.declared.entry.Entry.{Entry}
use Rattle.step_law.specs.declared.ring.Ring.TheVariants.{ControlToWorker}
use Rattle.step_law.specs.Entry.{take_of, send_of, begin_of, end_of, stop_of, beat_of, join, last}
use Rattle.record_law.specs.declared.shape.Shape.{Shape}
use Rattle.record_law.specs.declared.shape.Broken.TheVariants.{Syntax, Order, Ring, Look, End}
use Rattle.record_law.specs.Case.{Case, breaks, keeps, drop_line, double_line, swap_lines, put_line, shape_of, inst_of}

abbrev pub session : Shape
session = shape_of 0 8 1 (0 ∷ 1 ∷ []) (inst_of 1 false false ∷ inst_of 1 false false ∷ []) ([])

abbrev pub steps : List Entry
steps =
    begin_of Control Make 0 ∷ end_of Control Make 0 ∷ begin_of Control Make 1 ∷ end_of Control Make 1 ∷ begin_of Control Activate 0 ∷
    end_of Control Activate 0 ∷ begin_of Control Activate 1 ∷ end_of Control Activate 1 ∷ stop_of Audio ∷ beat_of 1 ∷
    send_of Control (ControlToWorker 1) ∷ take_of (Worker 1) (ControlToWorker 1) ∷ stop_of (Worker 1) ∷ join ∷
    begin_of Control Deactivate 0 ∷ end_of Control Deactivate 0 ∷ begin_of Control Deactivate 1 ∷ end_of Control Deactivate 1 ∷
    begin_of Control Cleanup 0 ∷ end_of Control Cleanup 0 ∷ begin_of Control Cleanup 1 ∷ end_of Control Cleanup 1 ∷ last ∷ []

-- each altered copy, with the line and the rule of its first violation
abbrev pub cases : List Case
cases =
    breaks (drop_line 2) 2 Order ∷ breaks (double_line 2) 3 Order ∷ breaks (put_line 2 (begin_of Control Make 1)) 2 Order ∷
    breaks (double_line 3) 4 Order ∷ breaks (swap_lines 3) 3 Order ∷ breaks (double_line 4) 5 Order ∷ breaks (swap_lines 4) 4 Order ∷
    breaks (double_line 5) 6 Order ∷ breaks (swap_lines 5) 5 Order ∷ breaks (put_line 5 (end_of Control Make 2)) 5 Syntax ∷
    breaks (put_line 5 (end_of Control Make 0)) 5 Order ∷ breaks (drop_line 6) 6 Order ∷
    breaks (put_line 6 (begin_of Control Activate 1)) 6 Order ∷ breaks (double_line 7) 8 Order ∷ breaks (swap_lines 7) 7 Order ∷
    breaks (drop_line 8) 8 Order ∷ breaks (swap_lines 8) 8 Order ∷ breaks (put_line 8 (begin_of Control Activate 0)) 8 Order ∷
    breaks (double_line 9) 10 Order ∷ breaks (put_line 9 (end_of Control Activate 2)) 9 Syntax ∷
    breaks (put_line 9 (end_of Control Activate 0)) 9 Order ∷ breaks (drop_line 10) 11 Look ∷ breaks (double_line 10) 11 Order ∷
    keeps (swap_lines 10) ∷ breaks (drop_line 11) 11 Order ∷ breaks (put_line 11 (beat_of 2)) 11 Order ∷ breaks (drop_line 12) 12 Ring ∷
    breaks (double_line 12) 13 Order ∷ breaks (swap_lines 12) 12 Ring ∷ breaks (double_line 13) 14 Ring ∷ breaks (swap_lines 13) 13 Order ∷
    breaks (put_line 13 (take_of (Worker 1) (ControlToWorker 2))) 13 Syntax ∷ breaks (drop_line 14) 14 Order ∷
    breaks (swap_lines 14) 14 Order ∷ breaks (put_line 14 (stop_of (Worker 2))) 14 Syntax ∷ breaks (drop_line 15) 15 Order ∷
    breaks (double_line 15) 16 Order ∷ breaks (swap_lines 15) 15 Order ∷ breaks (drop_line 16) 16 Order ∷
    breaks (put_line 16 (begin_of Control Deactivate 1)) 16 Order ∷ breaks (drop_line 17) 17 Order ∷ breaks (double_line 17) 18 Order ∷
    breaks (swap_lines 17) 17 Order ∷ breaks (drop_line 18) 18 Order ∷ breaks (put_line 18 (begin_of Control Deactivate 0)) 18 Order ∷
    breaks (drop_line 19) 19 Order ∷ breaks (swap_lines 19) 19 Order ∷ breaks (put_line 19 (end_of Control Deactivate 2)) 19 Syntax ∷
    breaks (swap_lines 20) 20 Order ∷ breaks (put_line 20 (begin_of Control Cleanup 1)) 20 Order ∷
    breaks (put_line 21 (end_of Control Cleanup 1)) 21 Order ∷ breaks (drop_line 22) 22 Order ∷ breaks (double_line 22) 23 Order ∷
    breaks (swap_lines 22) 22 Order ∷ breaks (put_line 22 (begin_of Control Cleanup 2)) 22 Syntax ∷
    breaks (put_line 22 (begin_of Control Cleanup 0)) 22 Order ∷ breaks (drop_line 23) 23 End ∷ breaks (swap_lines 23) 23 Syntax ∷
    breaks (put_line 23 (end_of Control Cleanup 0)) 23 Order ∷ breaks (drop_line 24) 24 End ∷ []
