-- What each move leaves names no take.
use Rattle.std.proofs.Common.{◌≡◌, ℕ, ◌+◌, ◌-◌, nat_lt, nat_le, nat_eq, Bool, true, false, ◌&&◌, ◌||◌, cond, List, [], ◌∷◌, ◌++◌, map, flat_map, drop, length, refl}
use Rattle.step_law.specs.declared.actor.Actor.TheVariants.{Audio, Control, Worker}
use Rattle.step_law.specs.declared.call.Call.TheVariants.{Run, Restore, Deactivate, Cleanup}
use Rattle.step_law.specs.declared.entry.Entry.{Entry}
use Rattle.step_law.specs.declared.ring.Ring.{Ring}
use Rattle.step_law.specs.declared.ring.Ring.TheVariants.{ControlToAudio, AudioToControl, ControlToWorker, WorkerToControl, Jobs, Responses, LocalJobs}
use Rattle.step_law.specs.Entry.{take_of, send_of, full_of, look_of, begin_of, end_of, stop_of, beat_of, join, last}
use Rattle.step_law.specs.Ring.{ring_at}
use Rattle.record_law.specs.declared.shape.Shape.{Shape}
use Rattle.record_law.specs.Entries.{same_entry}
use Rattle.record_law.specs.Message.{Message, History}
use Rattle.record_law.specs.Message.Message.{nothing, body, notice, part, lend, save, restore, close}
use Rattle.record_law.specs.History.{waiting}
use Rattle.record_law.specs.Shape.{insts_of, workers_of, worker_of, works}
use Rattle.record_law.specs.Task.{Due, Task, Move, only_if, may_be, where_due}
use Rattle.record_law.specs.Task.Stage.{due, tell, ask, hear, front, restoring}
use Rattle.record_law.specs.Task.Task.{one, take_from, attempts, look_messages, return_front, running, notices, look_responses, serving, local_jobs, acting, closing, leftovers}
use Rattle.record_law.specs.Task.Move.{goes}
use Rattle.record_law.specs.Audio.{whole_call, front_place, is_here, is_wanted, times, is_attempt, responding, run_tasks, delivery}
use Rattle.record_law.specs.Worker.{work_on, effect, has_back, was_closed, serve_from}
use Rattle.record_law.specs.Control.{finish_from, rings_left, cleaning, ending, has_reached, ends, sees, act, stages_after}
use Rattle.record_law.specs.Protocol.{move}
use Rattle.record_law.proofs.TakeLists.{no_takes, leaves_none, none_append, none_map, none_flat, none_times, none_finish_from}

only_leaves : (b : Bool) (message : Message) (tasks : List Task) → no_takes tasks ≡ true → leaves_none (only_if b message tasks) ≡ true
only_leaves true message tasks k = k
only_leaves false message tasks k = refl

may_leaves : (b : Bool) (message : Message) (tasks : List Task) → no_takes tasks ≡ true → leaves_none (may_be b message tasks) ≡ true
may_leaves true message tasks k = k
may_leaves false message tasks k = refl

where_leaves : (b : Bool) (m : Move) → leaves_none m ≡ true → leaves_none (where_due b m) ≡ true
where_leaves true m k = k
where_leaves false m k = refl

if_leaves : (b : Bool) (m n : Move) → leaves_none m ≡ true → leaves_none n ≡ true → leaves_none (cond b m n) ≡ true
if_leaves true m n first second = first
if_leaves false m n first second = second

none_effect : (s : Shape) (worker : ℕ) (message : Message) → no_takes (effect s worker message) ≡ true
none_effect s worker (save action inst) = refl
none_effect s worker (restore action inst) = refl
none_effect s worker (lend inst) = refl
none_effect s worker message = refl

none_cleaning : (s : Shape) → no_takes (cleaning s) ≡ true
none_cleaning s =
    none_append (flat_map (λ inst. whole_call Control Deactivate inst nothing) (insts_of s)) (flat_map (λ inst. whole_call Control Cleanup inst nothing) (insts_of s))
    (none_flat (λ inst. whole_call Control Deactivate inst nothing) (insts_of s) (λ i. refl))
    (none_flat (λ inst. whole_call Control Cleanup inst nothing) (insts_of s) (λ i. refl))

none_ending : (s : Shape) (k : ℕ) → no_takes (ending s k) ≡ true
none_ending s k =
    let close_all : List Task = map closing (workers_of s) in
    let joined : List Task = one join nothing ∷ [] in
    let left : List Task = map leftovers (rings_left s) in
    let actions : List Task = finish_from k (drop k s.actions) in
    none_append (close_all ++ joined ++ left ++ actions ++ cleaning s) (one last nothing ∷ [])
    (none_append (close_all ++ joined ++ left ++ actions) (cleaning s)
    (none_append (close_all ++ joined ++ left) actions
    (none_append (close_all ++ joined) left
    (none_append close_all joined (none_map closing (workers_of s) (λ w. refl)) refl)
    (none_map leftovers (rings_left s) (λ r. refl)))
    (none_finish_from k (drop k s.actions)))
    (none_cleaning s))
    refl

end_leaves : (s : Shape) (k : ℕ) (e : Entry) → leaves_none (ends s k e) ≡ true
end_leaves s k e = only_leaves (same_entry (beat_of (s.blocks + 1)) e) nothing (ending s k) (none_ending s k)

act_leaves : (s : Shape) (h : History) (taken : Message) (stages : List Due) (e : Entry) → leaves_none (act s h taken stages e) ≡ true
act_leaves s h taken [] e = end_leaves s (length s.actions) e
act_leaves s h taken ((k, due block) ∷ later) e =
    if_leaves (has_reached block h) (act s h taken later e) (sees s k block later e) (act_leaves s h taken later e)
    (if_leaves (same_entry (beat_of e.a) e && nat_le block e.a && nat_le e.a s.blocks) (goes nothing (acting later ∷ [])) (ends s k e) refl (end_leaves s k e))
act_leaves s h taken ((k, tell message) ∷ later) e =
    if_leaves (same_entry (send_of Control ControlToAudio) e) (goes message (acting later ∷ [])) (ends s k e) refl (end_leaves s k e)
act_leaves s h taken ((k, ask worker message) ∷ later) e = only_leaves (same_entry (send_of Control (ControlToWorker worker)) e) message (acting later ∷ []) refl
act_leaves s h taken ((k, hear worker) ∷ later) e = only_leaves (same_entry (take_of Control (WorkerToControl worker)) e) taken (acting later ∷ []) refl
act_leaves s h taken ((k, front inst) ∷ later) e = end_leaves s k e
act_leaves s h taken ((k, restoring action inst) ∷ later) e = only_leaves (same_entry (begin_of Control Restore inst) e) (restore action inst) (one (end_of Control Restore inst) nothing ∷ acting later ∷ []) refl

serve_leaves : (s : Shape) (worker : ℕ) (h : History) (taken : Message) (ring : Ring) (e : Entry) → leaves_none (serve_from s worker h taken ring e) ≡ true
serve_leaves s worker h taken (ControlToWorker other) e =
    only_leaves (same_entry (take_of (Worker worker) (ControlToWorker worker)) e) taken (effect s worker taken ++ serving worker ∷ [])
    (none_append (effect s worker taken) (serving worker ∷ []) (none_effect s worker taken) refl)
serve_leaves s worker h taken (Jobs inst) e =
    only_leaves (same_entry (take_of (Worker worker) (Jobs inst)) e && nat_eq (worker_of s inst) worker && works s inst && has_back worker inst h) taken
    (work_on worker inst ++ serving worker ∷ []) refl
serve_leaves s worker h taken ring e = refl

run_leaves : (s : Shape) (inst : ℕ) → no_takes (run_tasks s inst) ≡ true
run_leaves s inst = by (works s inst)
  where
    by : (b : Bool) → no_takes (responding b inst) ≡ true
    by true = refl
    by false = refl

pub move_leaves : (s : Shape) (h : History) (taken : Message) (task : Task) (e : Entry) → leaves_none (move s h taken task e) ≡ true
move_leaves s h taken (one it message) e = only_leaves (same_entry it e) message [] refl
move_leaves s h taken (take_from actor ring) e = only_leaves (same_entry (take_of actor ring) e) taken [] refl
move_leaves s h taken (attempts actor ring most) e = may_leaves (nat_lt 0 most && is_attempt actor ring e) body (attempts actor ring (most - 1) ∷ []) refl
move_leaves s h taken look_messages e =
    only_leaves (same_entry (look_of Audio ControlToAudio e.b) e) nothing (times e.b (take_from Audio ControlToAudio ∷ [])) (none_times e.b (take_from Audio ControlToAudio ∷ []) refl)
move_leaves s h taken (return_front inst) e =
    where_leaves (is_wanted (front_place inst h)) (only_if (same_entry (send_of Audio AudioToControl) e || same_entry (full_of Audio AudioToControl) e) (part inst) [])
    (only_leaves (same_entry (send_of Audio AudioToControl) e || same_entry (full_of Audio AudioToControl) e) (part inst) [] refl)
move_leaves s h taken (running inst) e =
    where_leaves (is_here (front_place inst h)) (only_if (same_entry (begin_of Audio Run inst) e) nothing (run_tasks s inst))
    (only_leaves (same_entry (begin_of Audio Run inst) e) nothing (run_tasks s inst) (run_leaves s inst))
move_leaves s h taken (notices inst most) e = may_leaves (nat_lt 0 most && is_attempt Audio AudioToControl e) (notice inst) (notices inst (most - 1) ∷ []) refl
move_leaves s h taken (look_responses inst) e =
    only_leaves (same_entry (look_of Audio (Responses inst) e.b) e) nothing (times e.b (delivery inst)) (none_times e.b (delivery inst) refl)
move_leaves s h taken (serving worker) e =
    if_leaves (same_entry (stop_of (Worker worker)) e) (only_if (was_closed worker h) nothing []) (serve_from s worker h taken (ring_at e.a) e)
    (only_leaves (was_closed worker h) nothing [] refl) (serve_leaves s worker h taken (ring_at e.a) e)
move_leaves s h taken (local_jobs worker inst) e =
    where_leaves (nat_lt 0 (waiting (LocalJobs inst) h)) (only_if (same_entry (take_of (Worker worker) (LocalJobs inst)) e) taken (work_on worker inst ++ local_jobs worker inst ∷ []))
    (only_leaves (same_entry (take_of (Worker worker) (LocalJobs inst)) e) taken (work_on worker inst ++ local_jobs worker inst ∷ []) refl)
move_leaves s h taken (acting stages) e =
    if_leaves (same_entry (take_of Control AudioToControl) e) (goes taken (acting (stages_after taken stages) ∷ [])) (act s h taken stages e) refl (act_leaves s h taken stages e)
move_leaves s h taken (closing worker) e =
    if_leaves (same_entry (take_of Control AudioToControl) e) (goes taken (closing worker ∷ [])) (only_if (same_entry (send_of Control (ControlToWorker worker)) e) close [])
    refl (only_leaves (same_entry (send_of Control (ControlToWorker worker)) e) close [] refl)
move_leaves s h taken (leftovers ring) e = may_leaves (same_entry (take_of Control ring) e) taken (leftovers ring ∷ []) refl
