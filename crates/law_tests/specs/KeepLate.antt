-- The one-thread record of a session: a restore that comes once all blocks have ended.
use Rattle.std.specs.Prelude.{false, List, [], ◌∷◌}
use Rattle.step_law.specs.declared.actor.Actor.TheVariants.{Audio, Control, Worker}
use Rattle.step_law.specs.declared.call.Call.TheVariants.{Run, Make, Activate, Deactivate, Cleanup, Restore}
use Rattle.step_law.specs.declared.entry.Entry.{Entry}
use Rattle.step_law.specs.declared.ring.Ring.TheVariants.{ControlToAudio, ControlToWorker}
use Rattle.step_law.specs.Entry.{block_of, done_of, look_of, take_of, send_of, begin_of, end_of, stop_of, beat_of, join, last}
use Rattle.record_law.specs.declared.shape.Shape.{Shape}
use Rattle.record_law.specs.declared.shape.ActionKind.TheVariants as kind
use Rattle.record_law.specs.declared.shape.Broken.TheVariants.{Syntax, Order, Ring, Look, End}
use Rattle.record_law.specs.Case.{Case, breaks, keeps, drop_line, double_line, swap_lines, put_line, shape_of, inst_of, action_of}

abbrev pub session : Shape
session = shape_of 4 8 1 (0 ∷ []) (inst_of 1 false false ∷ []) (action_of 4 kind.Restore 0 ∷ [])

abbrev pub steps : List Entry
steps =
    begin_of Control Make 0 ∷ end_of Control Make 0 ∷ begin_of Control Activate 0 ∷ end_of Control Activate 0 ∷ block_of 0 ∷
    look_of Audio ControlToAudio 0 ∷ begin_of Audio Run 0 ∷ end_of Audio Run 0 ∷ done_of 0 ∷ block_of 1 ∷ look_of Audio ControlToAudio 0 ∷
    begin_of Audio Run 0 ∷ end_of Audio Run 0 ∷ done_of 1 ∷ block_of 2 ∷ look_of Audio ControlToAudio 0 ∷ begin_of Audio Run 0 ∷
    end_of Audio Run 0 ∷ done_of 2 ∷ block_of 3 ∷ look_of Audio ControlToAudio 0 ∷ begin_of Audio Run 0 ∷ end_of Audio Run 0 ∷ done_of 3 ∷
    stop_of Audio ∷ beat_of 5 ∷ send_of Control (ControlToWorker 1) ∷ take_of (Worker 1) (ControlToWorker 1) ∷ stop_of (Worker 1) ∷ join ∷
    begin_of Control Restore 0 ∷ end_of Control Restore 0 ∷ begin_of Control Deactivate 0 ∷ end_of Control Deactivate 0 ∷
    begin_of Control Cleanup 0 ∷ end_of Control Cleanup 0 ∷ last ∷ []

-- each altered copy, with the line and the rule of its first violation
abbrev pub cases : List Case
cases =
    breaks (swap_lines 2) 2 Order ∷ breaks (drop_line 3) 3 Order ∷ breaks (put_line 5 (end_of Control Activate 1)) 5 Syntax ∷
    breaks (drop_line 6) 6 Order ∷ breaks (double_line 6) 7 Order ∷ breaks (swap_lines 6) 6 Order ∷ breaks (drop_line 7) 7 Order ∷
    breaks (put_line 8 (begin_of Audio Run 1)) 8 Syntax ∷ breaks (drop_line 9) 9 Order ∷ breaks (double_line 10) 11 Order ∷
    breaks (drop_line 11) 11 Order ∷ breaks (double_line 11) 12 Order ∷ breaks (put_line 11 (block_of 0)) 11 Order ∷
    breaks (put_line 12 (look_of Audio ControlToAudio 1)) 13 Order ∷ breaks (drop_line 13) 13 Order ∷ breaks (swap_lines 13) 13 Order ∷
    breaks (double_line 15) 16 Order ∷ breaks (put_line 15 (done_of 2)) 15 Order ∷ breaks (drop_line 17) 17 Order ∷
    breaks (put_line 17 (look_of Audio ControlToAudio 1)) 18 Order ∷ breaks (swap_lines 18) 18 Order ∷
    breaks (put_line 18 (begin_of Audio Run 1)) 18 Syntax ∷ breaks (drop_line 19) 19 Order ∷
    breaks (put_line 19 (end_of Audio Run 1)) 19 Syntax ∷ breaks (drop_line 20) 20 Order ∷ breaks (drop_line 21) 21 Order ∷
    breaks (put_line 21 (block_of 4)) 21 Order ∷ breaks (put_line 21 (block_of 2)) 21 Order ∷ breaks (drop_line 23) 23 Order ∷
    breaks (swap_lines 23) 23 Order ∷ breaks (put_line 23 (begin_of Audio Run 1)) 23 Syntax ∷ breaks (double_line 24) 25 Order ∷
    breaks (swap_lines 24) 24 Order ∷ breaks (drop_line 25) 25 Order ∷ breaks (drop_line 26) 27 Look ∷ keeps (swap_lines 26) ∷
    breaks (drop_line 27) 27 Order ∷ breaks (double_line 27) 28 Order ∷ breaks (swap_lines 27) 27 Order ∷ breaks (drop_line 28) 28 Ring ∷
    breaks (swap_lines 28) 28 Ring ∷ breaks (drop_line 29) 29 Order ∷ breaks (double_line 29) 30 Ring ∷
    breaks (put_line 29 (take_of (Worker 1) (ControlToWorker 2))) 29 Syntax ∷ breaks (double_line 31) 32 Order ∷
    breaks (swap_lines 31) 31 Order ∷ breaks (drop_line 32) 32 Order ∷ breaks (double_line 32) 33 Order ∷ breaks (drop_line 33) 33 Order ∷
    breaks (double_line 33) 34 Order ∷ breaks (double_line 34) 35 Order ∷ breaks (drop_line 35) 35 Order ∷ breaks (swap_lines 35) 35 Order ∷
    breaks (drop_line 36) 36 Order ∷ breaks (double_line 36) 37 Order ∷ breaks (swap_lines 36) 36 Order ∷ breaks (drop_line 37) 37 End ∷
    breaks (double_line 37) 38 Order ∷ breaks (swap_lines 37) 37 Syntax ∷ breaks (drop_line 38) 38 End ∷ []
