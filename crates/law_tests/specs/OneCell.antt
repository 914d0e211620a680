-- The one-thread record of a session: two values sent through one cell.
use Rattle.std.specs.Prelude.{false, List, [], ◌∷◌}
use Rattle.step_law.specs.declared.actor.Actor.TheVariants.{Audio, Control, Worker}
use Rattle.step_law.specs.declared.call.Call.TheVariants.{Run, Make, Activate, Deactivate, Cleanup}
use Rattle.step_law.specs.declared.entry.Entry.{Entry}
use Rattle.step_law.specs.declared.ring.Ring.TheVariants.{ControlToAudio, ControlToWorker}
use Rattle.step_law.specs.Entry.{block_of, done_of, look_of, take_of, send_of, begin_of, end_of, stop_of, beat_of, join, last}
use Rattle.record_law.specs.declared.shape.Shape.{Shape}
use Rattle.record_law.specs.declared.shape.ActionKind.TheVariants as kind
use Rattle.record_law.specs.declared.shape.Broken.TheVariants.{Syntax, Order, Ring, Look, End}
use Rattle.record_law.specs.Case.{Case, breaks, keeps, drop_line, double_line, swap_lines, put_line, shape_of, inst_of, action_of}

abbrev pub session : Shape
session = shape_of 3 1 1 (0 ∷ []) (inst_of 1 false false ∷ []) (action_of 0 kind.Set 0 ∷ action_of 0 kind.Set 0 ∷ [])

abbrev pub steps : List Entry
steps =
    begin_of Control Make 0 ∷ end_of Control Make 0 ∷ begin_of Control Activate 0 ∷ end_of Control Activate 0 ∷ beat_of 0 ∷
    send_of Control ControlToAudio ∷ block_of 0 ∷ look_of Audio ControlToAudio 1 ∷ take_of Audio ControlToAudio ∷ begin_of Audio Run 0 ∷
    end_of Audio Run 0 ∷ done_of 0 ∷ send_of Control ControlToAudio ∷ block_of 1 ∷ look_of Audio ControlToAudio 1 ∷
    take_of Audio ControlToAudio ∷ begin_of Audio Run 0 ∷ end_of Audio Run 0 ∷ done_of 1 ∷ block_of 2 ∷ look_of Audio ControlToAudio 0 ∷
    begin_of Audio Run 0 ∷ end_of Audio Run 0 ∷ done_of 2 ∷ stop_of Audio ∷ beat_of 4 ∷ send_of Control (ControlToWorker 1) ∷
    take_of (Worker 1) (ControlToWorker 1) ∷ stop_of (Worker 1) ∷ join ∷ begin_of Control Deactivate 0 ∷ end_of Control Deactivate 0 ∷
    begin_of Control Cleanup 0 ∷ end_of Control Cleanup 0 ∷ last ∷ []

-- each altered copy, with the line and the rule of its first violation
abbrev pub cases : List Case
cases =
    breaks (swap_lines 3) 3 Order ∷ breaks (double_line 4) 5 Order ∷ breaks (swap_lines 4) 4 Order ∷
    breaks (put_line 4 (begin_of Control Activate 1)) 4 Syntax ∷ breaks (drop_line 6) 6 Order ∷ breaks (swap_lines 6) 6 Order ∷
    breaks (put_line 6 (beat_of 1)) 7 Look ∷ breaks (drop_line 7) 9 Ring ∷ breaks (double_line 7) 15 Order ∷ keeps (swap_lines 7) ∷
    breaks (drop_line 8) 8 Order ∷ breaks (drop_line 9) 9 Order ∷ breaks (swap_lines 9) 9 Order ∷
    breaks (put_line 9 (look_of Audio ControlToAudio 2)) 10 Look ∷ breaks (drop_line 10) 10 Order ∷ breaks (double_line 10) 11 Order ∷
    breaks (put_line 11 (begin_of Audio Run 1)) 11 Syntax ∷ breaks (double_line 12) 13 Order ∷
    breaks (put_line 12 (end_of Audio Run 1)) 12 Syntax ∷ keeps (swap_lines 13) ∷ breaks (drop_line 14) 16 Ring ∷ keeps (swap_lines 14) ∷
    breaks (put_line 15 (block_of 0)) 15 Order ∷ breaks (drop_line 16) 16 Order ∷
    breaks (put_line 16 (look_of Audio ControlToAudio 2)) 17 Look ∷ breaks (drop_line 17) 17 Order ∷ breaks (drop_line 18) 18 Order ∷
    breaks (drop_line 19) 19 Order ∷ breaks (swap_lines 19) 19 Order ∷ breaks (double_line 20) 21 Order ∷
    breaks (put_line 20 (done_of 2)) 20 Order ∷ breaks (put_line 21 (block_of 3)) 21 Order ∷ breaks (double_line 22) 23 Order ∷
    breaks (swap_lines 22) 22 Order ∷ breaks (put_line 22 (look_of Audio ControlToAudio 1)) 23 Order ∷ breaks (swap_lines 23) 23 Order ∷
    breaks (double_line 24) 25 Order ∷ breaks (swap_lines 25) 25 Order ∷ breaks (drop_line 26) 27 Look ∷ keeps (swap_lines 26) ∷
    breaks (drop_line 27) 27 Order ∷ breaks (swap_lines 27) 27 Order ∷ breaks (put_line 27 (beat_of 5)) 27 Order ∷
    breaks (put_line 27 (beat_of 3)) 27 Order ∷ breaks (drop_line 28) 28 Ring ∷ breaks (swap_lines 28) 28 Ring ∷
    breaks (put_line 28 (send_of Control (ControlToWorker 2))) 28 Syntax ∷ breaks (drop_line 29) 29 Order ∷
    breaks (double_line 29) 30 Ring ∷ breaks (drop_line 30) 30 Order ∷ breaks (double_line 30) 31 Order ∷ breaks (drop_line 31) 31 Order ∷
    breaks (swap_lines 31) 31 Order ∷ breaks (drop_line 32) 32 Order ∷ breaks (put_line 32 (begin_of Control Deactivate 1)) 32 Syntax ∷
    breaks (double_line 34) 35 Order ∷ breaks (put_line 34 (begin_of Control Cleanup 1)) 34 Syntax ∷ breaks (drop_line 35) 35 End ∷
    breaks (swap_lines 35) 35 Syntax ∷ breaks (drop_line 36) 36 End ∷ []
