-- The one-thread record of a session: a value that is never sent.
use Rattle.std.specs.Prelude.{false, List, [], ◌∷◌}
use Rattle.step_law.specs.declared.actor.Actor.TheVariants.{Audio, Control, Worker}
use Rattle.step_law.specs.declared.call.Call.TheVariants.{Run, Make, Activate, Deactivate, Cleanup}
use Rattle.step_law.specs.declared.entry.Entry.{Entry}
use Rattle.step_law.specs.declared.ring.Ring.TheVariants.{ControlToAudio, ControlToWorker}
use Rattle.step_law.specs.Entry.{block_of, done_of, look_of, take_of, send_of, begin_of, end_of, stop_of, beat_of, join, late_of, last}
use Rattle.record_law.specs.declared.shape.Shape.{Shape}
use Rattle.record_law.specs.declared.shape.ActionKind.TheVariants as kind
use Rattle.record_law.specs.declared.shape.Broken.TheVariants.{Syntax, Order, Ring, Look, End}
use Rattle.record_law.specs.Case.{Case, breaks, keeps, drop_line, double_line, swap_lines, put_line, shape_of, inst_of, action_of}

abbrev pub session : Shape
session = shape_of 1 8 1 (0 ∷ []) (inst_of 1 false false ∷ []) (action_of 1 kind.Set 0 ∷ [])

abbrev pub steps : List Entry
steps =
    begin_of Control Make 0 ∷ end_of Control Make 0 ∷ begin_of Control Activate 0 ∷ end_of Control Activate 0 ∷ block_of 0 ∷
    look_of Audio ControlToAudio 0 ∷ begin_of Audio Run 0 ∷ end_of Audio Run 0 ∷ done_of 0 ∷ stop_of Audio ∷ beat_of 2 ∷
    send_of Control (ControlToWorker 1) ∷ take_of (Worker 1) (ControlToWorker 1) ∷ stop_of (Worker 1) ∷ join ∷ late_of 0 ∷
    begin_of Control Deactivate 0 ∷ end_of Control Deactivate 0 ∷ begin_of Control Cleanup 0 ∷ end_of Control Cleanup 0 ∷ last ∷ []

-- each altered copy, with the line and the rule of its first violation
abbrev pub cases : List Case
cases =
    breaks (drop_line 2) 2 Order ∷ breaks (swap_lines 2) 2 Order ∷ breaks (put_line 2 (begin_of Control Make 1)) 2 Syntax ∷
    breaks (drop_line 3) 3 Order ∷ breaks (double_line 3) 4 Order ∷ breaks (drop_line 4) 4 Order ∷ breaks (double_line 4) 5 Order ∷
    breaks (swap_lines 4) 4 Order ∷ breaks (drop_line 6) 6 Order ∷ breaks (double_line 6) 7 Order ∷ breaks (swap_lines 6) 6 Order ∷
    breaks (put_line 6 (block_of 1)) 6 Order ∷ breaks (drop_line 7) 7 Order ∷ breaks (put_line 7 (look_of Audio ControlToAudio 1)) 8 Order ∷
    breaks (drop_line 8) 8 Order ∷ breaks (double_line 8) 9 Order ∷ breaks (drop_line 9) 9 Order ∷ breaks (double_line 9) 10 Order ∷
    breaks (swap_lines 9) 9 Order ∷ breaks (put_line 9 (end_of Audio Run 1)) 9 Syntax ∷ breaks (drop_line 10) 10 Order ∷
    breaks (double_line 10) 11 Order ∷ breaks (swap_lines 10) 10 Order ∷ breaks (drop_line 11) 12 Look ∷ breaks (double_line 11) 12 Order ∷
    keeps (swap_lines 11) ∷ breaks (drop_line 12) 12 Order ∷ breaks (double_line 12) 13 Order ∷ breaks (swap_lines 12) 12 Order ∷
    breaks (put_line 12 (beat_of 3)) 12 Order ∷ breaks (put_line 12 (beat_of 1)) 13 Order ∷ breaks (drop_line 13) 13 Ring ∷
    breaks (double_line 13) 14 Order ∷ breaks (swap_lines 13) 13 Ring ∷ breaks (drop_line 14) 14 Order ∷ breaks (double_line 14) 15 Ring ∷
    breaks (swap_lines 14) 14 Order ∷ breaks (put_line 14 (take_of (Worker 2) (ControlToWorker 1))) 14 Syntax ∷
    breaks (put_line 14 (take_of (Worker 1) (ControlToWorker 2))) 14 Syntax ∷ breaks (swap_lines 15) 15 Order ∷
    breaks (put_line 15 (stop_of (Worker 2))) 15 Syntax ∷ breaks (drop_line 16) 16 Order ∷ breaks (double_line 16) 17 Order ∷
    breaks (swap_lines 16) 16 Order ∷ breaks (drop_line 17) 17 Order ∷ breaks (double_line 17) 18 Order ∷
    breaks (put_line 17 (late_of 1)) 17 Order ∷ breaks (drop_line 18) 18 Order ∷ breaks (double_line 18) 19 Order ∷
    breaks (swap_lines 18) 18 Order ∷ breaks (put_line 18 (begin_of Control Deactivate 1)) 18 Syntax ∷ breaks (drop_line 19) 19 Order ∷
    breaks (swap_lines 19) 19 Order ∷ breaks (drop_line 20) 20 Order ∷ breaks (double_line 20) 21 Order ∷ breaks (swap_lines 20) 20 Order ∷
    breaks (drop_line 21) 21 End ∷ breaks (double_line 21) 22 Order ∷ breaks (swap_lines 21) 21 Syntax ∷ breaks (drop_line 22) 22 End ∷ []
