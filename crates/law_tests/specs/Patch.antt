-- The one-thread record of a session: patch messages and notices.
use Rattle.std.specs.Prelude.{true, List, [], ◌∷◌}
use Rattle.step_law.specs.declared.actor.Actor.TheVariants.{Audio, Control, Worker}
use Rattle.step_law.specs.declared.call.Call.TheVariants.{Run, EndRun, Work, Make, Activate, Deactivate, Cleanup}
use Rattle.step_law.specs.declared.entry.Entry.{Entry}
use Rattle.step_law.specs.declared.ring.Ring.TheVariants.{ControlToAudio, AudioToControl, ControlToWorker, Jobs, Responses}
use Rattle.step_law.specs.Entry.{block_of, done_of, look_of, take_of, send_of, begin_of, end_of, stop_of, beat_of, join, last}
use Rattle.record_law.specs.declared.shape.Shape.{Shape}
use Rattle.record_law.specs.declared.shape.ActionKind.TheVariants as kind
use Rattle.record_law.specs.declared.shape.Broken.TheVariants.{Syntax, Order, Ring, Look, End}
use Rattle.record_law.specs.Case.{Case, breaks, keeps, drop_line, double_line, swap_lines, put_line, shape_of, inst_of, action_of}

abbrev pub session : Shape
session = shape_of 2 8 1 (0 ∷ []) (inst_of 1 true true ∷ []) (action_of 0 kind.Patch 0 ∷ action_of 0 kind.Patch 0 ∷ action_of 1 kind.Patch 0 ∷ [])

abbrev pub steps : List Entry
steps =
    begin_of Control Make 0 ∷ end_of Control Make 0 ∷ begin_of Control Activate 0 ∷ end_of Control Activate 0 ∷ beat_of 0 ∷
    send_of Control ControlToAudio ∷ send_of Control ControlToAudio ∷ block_of 0 ∷ look_of Audio ControlToAudio 2 ∷
    take_of Audio ControlToAudio ∷ take_of Audio ControlToAudio ∷ begin_of Audio Run 0 ∷ send_of Audio (Jobs 0) ∷ end_of Audio Run 0 ∷
    send_of Audio AudioToControl ∷ take_of (Worker 1) (Jobs 0) ∷ begin_of (Worker 1) Work 0 ∷ end_of (Worker 1) Work 0 ∷
    look_of Audio (Responses 0) 0 ∷ begin_of Audio EndRun 0 ∷ end_of Audio EndRun 0 ∷ done_of 0 ∷ take_of Control AudioToControl ∷
    beat_of 1 ∷ send_of Control ControlToAudio ∷ block_of 1 ∷ look_of Audio ControlToAudio 1 ∷ take_of Audio ControlToAudio ∷
    begin_of Audio Run 0 ∷ end_of Audio Run 0 ∷ send_of Audio AudioToControl ∷ look_of Audio (Responses 0) 0 ∷ begin_of Audio EndRun 0 ∷
    end_of Audio EndRun 0 ∷ done_of 1 ∷ stop_of Audio ∷ take_of Control AudioToControl ∷ beat_of 3 ∷ send_of Control (ControlToWorker 1) ∷
    take_of (Worker 1) (ControlToWorker 1) ∷ stop_of (Worker 1) ∷ join ∷ begin_of Control Deactivate 0 ∷ end_of Control Deactivate 0 ∷
    begin_of Control Cleanup 0 ∷ end_of Control Cleanup 0 ∷ last ∷ []

-- each altered copy, with the line and the rule of its first violation
abbrev pub cases : List Case
cases =
    breaks (drop_line 2) 2 Order ∷ breaks (double_line 2) 3 Order ∷ breaks (put_line 4 (begin_of Control Activate 1)) 4 Syntax ∷
    breaks (put_line 5 (end_of Control Activate 1)) 5 Syntax ∷ breaks (put_line 6 (beat_of 1)) 7 Look ∷ breaks (drop_line 7) 10 Look ∷
    breaks (drop_line 8) 10 Look ∷ keeps (swap_lines 8) ∷ breaks (drop_line 9) 9 Order ∷
    breaks (put_line 10 (look_of Audio ControlToAudio 3)) 11 Look ∷ breaks (drop_line 11) 12 Order ∷ breaks (swap_lines 12) 12 Order ∷
    breaks (drop_line 14) 16 Ring ∷ breaks (swap_lines 14) 15 Order ∷ breaks (put_line 15 (end_of Audio Run 1)) 15 Syntax ∷
    breaks (drop_line 16) 23 Ring ∷ keeps (swap_lines 16) ∷ breaks (double_line 17) 18 Order ∷
    breaks (put_line 17 (take_of (Worker 2) (Jobs 0))) 17 Syntax ∷ breaks (drop_line 18) 18 Order ∷ breaks (double_line 19) 20 Order ∷
    keeps (swap_lines 19) ∷ breaks (double_line 22) 23 Order ∷ breaks (drop_line 23) 25 Look ∷ keeps (swap_lines 23) ∷
    breaks (double_line 24) 25 Ring ∷ keeps (swap_lines 24) ∷ breaks (put_line 25 (beat_of 2)) 26 Look ∷ breaks (drop_line 26) 28 Ring ∷
    keeps (swap_lines 26) ∷ breaks (drop_line 27) 27 Order ∷ breaks (put_line 27 (block_of 2)) 27 Order ∷
    breaks (put_line 27 (block_of 0)) 27 Order ∷ breaks (put_line 28 (look_of Audio ControlToAudio 2)) 29 Look ∷
    breaks (double_line 29) 30 Order ∷ breaks (drop_line 31) 31 Order ∷ breaks (drop_line 32) 37 Ring ∷ breaks (double_line 32) 45 Order ∷
    breaks (swap_lines 32) 33 Order ∷ breaks (swap_lines 33) 33 Order ∷ breaks (put_line 33 (look_of Audio (Responses 1) 0)) 33 Syntax ∷
    breaks (drop_line 36) 36 Order ∷ breaks (double_line 36) 37 Order ∷ breaks (drop_line 37) 39 Look ∷ breaks (double_line 37) 38 Order ∷
    keeps (swap_lines 37) ∷ breaks (double_line 38) 39 Ring ∷ keeps (swap_lines 38) ∷ breaks (swap_lines 39) 39 Order ∷
    breaks (drop_line 40) 40 Ring ∷ breaks (swap_lines 40) 40 Ring ∷ breaks (double_line 41) 42 Ring ∷
    breaks (put_line 41 (take_of (Worker 1) (ControlToWorker 2))) 41 Syntax ∷ breaks (drop_line 42) 42 Order ∷
    breaks (swap_lines 43) 43 Order ∷ breaks (double_line 44) 45 Order ∷ breaks (drop_line 45) 45 Order ∷ breaks (drop_line 47) 47 End ∷
    breaks (put_line 47 (end_of Control Cleanup 1)) 47 Syntax ∷ breaks (drop_line 48) 48 End ∷ []
