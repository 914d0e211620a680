-- Messages are about instances that are there: so are those of all tasks, and what a task leaves.
use Rattle.std.proofs.Common.{◌≡◌, ℕ, zero, suc, ◌+◌, ◌-◌, ◌<◌, nat_lt, nat_le, nat_eq, Bool, true, false, ◌&&◌, ◌||◌, cond, List, [], ◌∷◌, ◌++◌, map, flat_map, drop, length, Option, All, refl, sym, subst, arith, lt-ltb, ltb-true}
use Rattle.std.specs.List.{list_all, range_with_len}
use Rattle.std.proofs.lemmas.Bool.{and_parts, and_from, cond_both}
use Rattle.std.proofs.lemmas.List.Elements.{All-nil, All-cons, All-head, All-tail}
use Rattle.step_law.specs.declared.actor.Actor.{Actor}
use Rattle.step_law.specs.declared.actor.Actor.TheVariants.{Audio, Control, Worker}
use Rattle.step_law.specs.declared.call.Call.TheVariants.{Run, Restore, Make, Activate, Deactivate, Cleanup}
use Rattle.step_law.specs.declared.entry.Entry.{Entry}
use Rattle.step_law.specs.declared.entry.Kind.TheVariants.{Take, Send}
use Rattle.step_law.specs.declared.ring.Ring.{Ring}
use Rattle.step_law.specs.declared.ring.Ring.TheVariants.{ControlToAudio, AudioToControl, ControlToWorker, WorkerToControl, Jobs, Responses, LocalJobs}
use Rattle.step_law.specs.Actor.{actor_at}
use Rattle.step_law.specs.Entry.{take_of, send_of, full_of, look_of, begin_of, end_of, stop_of, beat_of, block_of, done_of, join, last}
use Rattle.step_law.specs.Ring.{ring_at}
use Rattle.record_law.specs.declared.shape.ActionKind.{ActionKind}
use Rattle.record_law.specs.declared.shape.ActionKind.TheVariants as kind
use Rattle.record_law.specs.declared.shape.Shape.{Shape}
use Rattle.record_law.specs.declared.shape.ShapeAction.{ShapeAction}
use Rattle.record_law.specs.Entries.{is_by, is_kind, is_on, same_entry}
use Rattle.record_law.specs.Message.{Message, Step, History}
use Rattle.record_law.specs.Message.Message.{nothing, body, notice, input, lend, part, give, save, restore, answer, close}
use Rattle.record_law.specs.History.{count, put_last, sent_on, message_at, next_on, own, waiting}
use Rattle.record_law.specs.Shape.{insts_of, workers_of, worker_of, works}
use Rattle.record_law.specs.Task.{Due, Task, Move, only_if, may_be, where_due}
use Rattle.record_law.specs.Task.Stage.{due, tell, ask, hear, front, restoring}
use Rattle.record_law.specs.Task.Task.{one, take_from, attempts, look_messages, return_front, running, notices, look_responses, serving, local_jobs, acting, closing, leftovers}
use Rattle.record_law.specs.Task.Move.{refuses, passes, goes}
use Rattle.record_law.specs.Actions.{stages_of, finish}
use Rattle.record_law.specs.Audio.{whole_call, cycle, cycles, front_place, is_here, is_wanted, times, is_attempt, responding, run_tasks, delivery}
use Rattle.record_law.specs.Worker.{work_on, effect, has_back, was_closed, serve_from}
use Rattle.record_law.specs.Control.{opening, stages_from, finish_from, rings_left, cleaning, ending, has_reached, ends, sees, act, stages_after, is_part}
use Rattle.record_law.specs.Protocol.{Follows, tasks_of, move, then_left, follow, left_in, about_in, left_after, brought, follow_in}
use Rattle.record_counts.specs.Kept.{IsKept}
use Rattle.record_counts.specs.Owners.{IsAboutThere}
use Rattle.record_terms.specs.Session.{IsSession}

-- an instance is there
abbrev inst_there : Shape → ℕ → Bool
inst_there s inst = nat_lt inst (length s.insts)

-- the instance of which a message asks for a part, or carries one, is there
abbrev named : Shape → Message → Bool
named s (lend inst) = inst_there s inst
named s (part inst) = inst_there s inst
named s (give inst) = inst_there s inst
named s message = true

abbrev due_named : Shape → Due → Bool
due_named s (k, tell message) = named s message
due_named s (k, ask worker message) = named s message
due_named s (k, stage) = true

abbrev task_named : Shape → Task → Bool
task_named s (one it message) = named s message
task_named s (return_front inst) = inst_there s inst
task_named s (acting stages) = list_all (due_named s) stages
task_named s task = true

abbrev tasks_named : Shape → List Task → Bool
tasks_named s tasks = list_all (task_named s) tasks

-- a move is about such a message, and leaves tasks of such
abbrev move_named : Shape → Move → Bool
move_named s refuses = true
move_named s passes = true
move_named s (goes message tasks) = named s message && tasks_named s tasks

-- ---- lists of tasks

named_append : (s : Shape) (first second : List Task) → tasks_named s first ≡ true → tasks_named s second ≡ true → tasks_named s (first ++ second) ≡ true
named_append s [] second f g = g
named_append s (x ∷ first) second f g =
    let both = and_parts (task_named s x) (tasks_named s first) f in and_from (task_named s x) (tasks_named s (first ++ second)) both.0 (named_append s first second both.1 g)

named_map : {A : Type 0} (s : Shape) (f : A → Task) (xs : List A) → ((x : A) → task_named s (f x) ≡ true) → tasks_named s (map f xs) ≡ true
named_map s f [] k = refl
named_map s f (x ∷ xs) k = and_from (task_named s (f x)) (tasks_named s (map f xs)) (k x) (named_map s f xs k)

named_flat : {A : Type 0} (s : Shape) (f : A → List Task) (xs : List A) → ((x : A) → tasks_named s (f x) ≡ true) → tasks_named s (flat_map f xs) ≡ true
named_flat s f [] k = refl
named_flat s f (x ∷ xs) k = named_append s (f x) (flat_map f xs) (k x) (named_flat s f xs k)

named_times : (s : Shape) (n : ℕ) (tasks : List Task) → tasks_named s tasks ≡ true → tasks_named s (times n tasks) ≡ true
named_times s zero tasks k = refl
named_times s (suc n) tasks k = named_append s tasks (times n tasks) k (named_times s n tasks k)

-- ---- moves

only_named : (s : Shape) (b : Bool) (message : Message) (tasks : List Task) → named s message ≡ true → tasks_named s tasks ≡ true → move_named s (only_if b message tasks) ≡ true
only_named s true message tasks m k = and_from (named s message) (tasks_named s tasks) m k
only_named s false message tasks m k = refl

may_named : (s : Shape) (b : Bool) (message : Message) (tasks : List Task) → named s message ≡ true → tasks_named s tasks ≡ true → move_named s (may_be b message tasks) ≡ true
may_named s true message tasks m k = and_from (named s message) (tasks_named s tasks) m k
may_named s false message tasks m k = refl

where_named : (s : Shape) (b : Bool) (m : Move) → move_named s m ≡ true → move_named s (where_due b m) ≡ true
where_named s true m k = k
where_named s false m k = refl

if_named : (s : Shape) (b : Bool) (m n : Move) → move_named s m ≡ true → move_named s n ≡ true → move_named s (cond b m n) ≡ true
if_named s true m n first second = first
if_named s false m n first second = second

goes_named : (s : Shape) (message : Message) (tasks : List Task) → named s message ≡ true → tasks_named s tasks ≡ true → move_named s (goes message tasks) ≡ true
goes_named s message tasks m k = and_from (named s message) (tasks_named s tasks) m k

finish_named : (s : Shape) (what : ActionKind) (k inst : ℕ) → tasks_named s (finish what k inst) ≡ true
finish_named s kind.Set k inst = refl
finish_named s kind.Patch k inst = refl
finish_named s kind.Save k inst = refl
finish_named s kind.RestoreSafe k inst = refl
finish_named s kind.Restore k inst = refl

finish_from_named : (s : Shape) (k : ℕ) (actions : List ShapeAction) → tasks_named s (finish_from k actions) ≡ true
finish_from_named s k [] = refl
finish_from_named s k (it ∷ later) = named_append s (finish it.kind k it.inst) (finish_from (k + 1) later) (finish_named s it.kind k it.inst) (finish_from_named s (k + 1) later)

cleaning_named : (s : Shape) → tasks_named s (cleaning s) ≡ true
cleaning_named s =
    named_append s (flat_map (λ inst. whole_call Control Deactivate inst nothing) (insts_of s)) (flat_map (λ inst. whole_call Control Cleanup inst nothing) (insts_of s))
    (named_flat s (λ inst. whole_call Control Deactivate inst nothing) (insts_of s) (λ i. refl))
    (named_flat s (λ inst. whole_call Control Cleanup inst nothing) (insts_of s) (λ i. refl))

ending_named : (s : Shape) (k : ℕ) → tasks_named s (ending s k) ≡ true
ending_named s k =
    let close_all : List Task = map closing (workers_of s) in
    let joined : List Task = one join nothing ∷ [] in
    let left : List Task = map leftovers (rings_left s) in
    let actions : List Task = finish_from k (drop k s.actions) in
    named_append s (close_all ++ joined ++ left ++ actions ++ cleaning s) (one last nothing ∷ [])
    (named_append s (close_all ++ joined ++ left ++ actions) (cleaning s)
    (named_append s (close_all ++ joined ++ left) actions
    (named_append s (close_all ++ joined) left
    (named_append s close_all joined (named_map s closing (workers_of s) (λ w. refl)) refl)
    (named_map s leftovers (rings_left s) (λ r. refl)))
    (finish_from_named s k (drop k s.actions)))
    (cleaning_named s))
    refl

end_named : (s : Shape) (k : ℕ) (e : Entry) → move_named s (ends s k e) ≡ true
end_named s k e = only_named s (same_entry (beat_of (s.blocks + 1)) e) nothing (ending s k) refl (ending_named s k)

-- a list of one task that acts
acts : (s : Shape) (stages : List Due) → list_all (due_named s) stages ≡ true → tasks_named s (acting stages ∷ []) ≡ true
acts s stages k = and_from (list_all (due_named s) stages) true k refl

act_named : (s : Shape) (h : History) (taken : Message) (stages : List Due) (e : Entry) → named s taken ≡ true → list_all (due_named s) stages ≡ true
    → move_named s (act s h taken stages e) ≡ true
act_named s h taken [] e t k = end_named s (length s.actions) e
act_named s h taken ((n, due block) ∷ later) e t k =
    if_named s (has_reached block h) (act s h taken later e) (sees s n block later e) (act_named s h taken later e t k)
    (if_named s (same_entry (beat_of e.a) e && nat_le block e.a && nat_le e.a s.blocks) (goes nothing (acting later ∷ [])) (ends s n e)
    (goes_named s nothing (acting later ∷ []) refl (acts s later k)) (end_named s n e))
act_named s h taken ((n, tell message) ∷ later) e t k =
    let both = and_parts (named s message) (list_all (due_named s) later) k in
    if_named s (same_entry (send_of Control ControlToAudio) e) (goes message (acting later ∷ [])) (ends s n e)
    (goes_named s message (acting later ∷ []) both.0 (acts s later both.1)) (end_named s n e)
act_named s h taken ((n, ask worker message) ∷ later) e t k =
    let both = and_parts (named s message) (list_all (due_named s) later) k in
    only_named s (same_entry (send_of Control (ControlToWorker worker)) e) message (acting later ∷ []) both.0 (acts s later both.1)
act_named s h taken ((n, hear worker) ∷ later) e t k =
    only_named s (same_entry (take_of Control (WorkerToControl worker)) e) taken (acting later ∷ []) t (acts s later k)
act_named s h taken ((n, front inst) ∷ later) e t k = end_named s n e
act_named s h taken ((n, restoring action inst) ∷ later) e t k =
    only_named s (same_entry (begin_of Control Restore inst) e) (restore action inst) (one (end_of Control Restore inst) nothing ∷ acting later ∷ []) refl (acts s later k)

stages_after_named : (s : Shape) (taken : Message) (stages : List Due) → list_all (due_named s) stages ≡ true → list_all (due_named s) (stages_after taken stages) ≡ true
stages_after_named s taken [] k = refl
stages_after_named s taken ((n, front inst) ∷ later) k =
    cond_both (is_part inst taken) later ((n, front inst) ∷ later) (λ (l : List Due). list_all (due_named s) l ≡ true) (λ e. k) (λ e. k)
stages_after_named s taken ((n, due block) ∷ later) k = k
stages_after_named s taken ((n, tell message) ∷ later) k = k
stages_after_named s taken ((n, ask worker message) ∷ later) k = k
stages_after_named s taken ((n, hear worker) ∷ later) k = k
stages_after_named s taken ((n, restoring action inst) ∷ later) k = k

effect_named : (s : Shape) (worker : ℕ) (message : Message) → named s message ≡ true → tasks_named s (effect s worker message) ≡ true
effect_named s worker (save action inst) m = refl
effect_named s worker (restore action inst) m = refl
effect_named s worker (lend inst) m = and_from (inst_there s inst) true m refl
effect_named s worker nothing m = refl
effect_named s worker body m = refl
effect_named s worker (notice inst) m = refl
effect_named s worker (input action) m = refl
effect_named s worker (part inst) m = refl
effect_named s worker (give inst) m = refl
effect_named s worker (answer action) m = refl
effect_named s worker close m = refl

serve_named : (s : Shape) (worker : ℕ) (h : History) (taken : Message) (ring : Ring) (e : Entry) → named s taken ≡ true → move_named s (serve_from s worker h taken ring e) ≡ true
serve_named s worker h taken (ControlToWorker other) e t =
    only_named s (same_entry (take_of (Worker worker) (ControlToWorker worker)) e) taken (effect s worker taken ++ serving worker ∷ []) t
    (named_append s (effect s worker taken) (serving worker ∷ []) (effect_named s worker taken t) refl)
serve_named s worker h taken (Jobs inst) e t =
    only_named s (same_entry (take_of (Worker worker) (Jobs inst)) e && nat_eq (worker_of s inst) worker && works s inst && has_back worker inst h) taken
    (work_on worker inst ++ serving worker ∷ []) t refl
serve_named s worker h taken ring e t = refl

run_named : (s : Shape) (inst : ℕ) → tasks_named s (run_tasks s inst) ≡ true
run_named s inst = by (works s inst)
  where
    by : (b : Bool) → tasks_named s (responding b inst) ≡ true
    by true = refl
    by false = refl

named_move : (s : Shape) (h : History) (taken : Message) (task : Task) (e : Entry) → named s taken ≡ true → task_named s task ≡ true → move_named s (move s h taken task e) ≡ true
named_move s h taken (one it message) e t k = only_named s (same_entry it e) message [] k refl
named_move s h taken (take_from actor ring) e t k = only_named s (same_entry (take_of actor ring) e) taken [] t refl
named_move s h taken (attempts actor ring most) e t k = may_named s (nat_lt 0 most && is_attempt actor ring e) body (attempts actor ring (most - 1) ∷ []) refl refl
named_move s h taken look_messages e t k =
    only_named s (same_entry (look_of Audio ControlToAudio e.b) e) nothing (times e.b (take_from Audio ControlToAudio ∷ [])) refl
    (named_times s e.b (take_from Audio ControlToAudio ∷ []) refl)
named_move s h taken (return_front inst) e t k =
    where_named s (is_wanted (front_place inst h)) (only_if (same_entry (send_of Audio AudioToControl) e || same_entry (full_of Audio AudioToControl) e) (part inst) [])
    (only_named s (same_entry (send_of Audio AudioToControl) e || same_entry (full_of Audio AudioToControl) e) (part inst) [] k refl)
named_move s h taken (running inst) e t k =
    where_named s (is_here (front_place inst h)) (only_if (same_entry (begin_of Audio Run inst) e) nothing (run_tasks s inst))
    (only_named s (same_entry (begin_of Audio Run inst) e) nothing (run_tasks s inst) refl (run_named s inst))
named_move s h taken (notices inst most) e t k = may_named s (nat_lt 0 most && is_attempt Audio AudioToControl e) (notice inst) (notices inst (most - 1) ∷ []) refl refl
named_move s h taken (look_responses inst) e t k =
    only_named s (same_entry (look_of Audio (Responses inst) e.b) e) nothing (times e.b (delivery inst)) refl (named_times s e.b (delivery inst) refl)
named_move s h taken (serving worker) e t k =
    if_named s (same_entry (stop_of (Worker worker)) e) (only_if (was_closed worker h) nothing []) (serve_from s worker h taken (ring_at e.a) e)
    (only_named s (was_closed worker h) nothing [] refl refl) (serve_named s worker h taken (ring_at e.a) e t)
named_move s h taken (local_jobs worker inst) e t k =
    where_named s (nat_lt 0 (waiting (LocalJobs inst) h)) (only_if (same_entry (take_of (Worker worker) (LocalJobs inst)) e) taken (work_on worker inst ++ local_jobs worker inst ∷ []))
    (only_named s (same_entry (take_of (Worker worker) (LocalJobs inst)) e) taken (work_on worker inst ++ local_jobs worker inst ∷ []) t refl)
named_move s h taken (acting stages) e t k =
    if_named s (same_entry (take_of Control AudioToControl) e) (goes taken (acting (stages_after taken stages) ∷ [])) (act s h taken stages e)
    (goes_named s taken (acting (stages_after taken stages) ∷ []) t (acts s (stages_after taken stages) (stages_after_named s taken stages k))) (act_named s h taken stages e t k)
named_move s h taken (closing worker) e t k =
    if_named s (same_entry (take_of Control AudioToControl) e) (goes taken (closing worker ∷ [])) (only_if (same_entry (send_of Control (ControlToWorker worker)) e) close [])
    (goes_named s taken (closing worker ∷ []) t refl) (only_named s (same_entry (send_of Control (ControlToWorker worker)) e) close [] refl refl)
named_move s h taken (leftovers ring) e t k = may_named s (same_entry (take_of Control ring) e) taken (leftovers ring ∷ []) t refl

-- ---- what follows

-- what an entry is about, and what is left after it
abbrev follows_named : Shape → Option Follows → Bool
follows_named s it = named s (about_in it) && tasks_named s (left_in it)

named_follow : (s : Shape) (h : History) (taken : Message) (tasks : List Task) (e : Entry) → named s taken ≡ true → tasks_named s tasks ≡ true
    → follows_named s (follow s h taken tasks e) ≡ true
named_follow s h taken [] e t k = refl
named_follow s h taken (task ∷ tasks) e t k =
    let both = and_parts (task_named s task) (tasks_named s tasks) k in
    by (move s h taken task e) (named_move s h taken task e t both.0) both.1 (named_follow s h taken tasks e t both.1)
  where
    by : (m : Move) → move_named s m ≡ true → tasks_named s tasks ≡ true → follows_named s (follow s h taken tasks e) ≡ true
        → follows_named s (then_left m tasks (follow s h taken tasks e)) ≡ true
    by refuses left rest later = refl
    by passes left rest later = later
    by (goes message first) left rest later =
        let both = and_parts (named s message) (tasks_named s first) left in
        and_from (named s message) (tasks_named s (first ++ tasks)) both.0 (named_append s first tasks both.1 rest)

-- ---- all tasks

range_named : (s : Shape) (k n : ℕ) → k + n ≡ length s.insts → tasks_named s (map return_front (range_with_len k n)) ≡ true
range_named s k zero e = refl
range_named s k (suc n) e =
    and_from (inst_there s k) (tasks_named s (map return_front (range_with_len (k + 1) n))) (lt-ltb k (length s.insts) (omega (arith, e))) (range_named s (k + 1) n (omega (arith, e)))

cycle_named : (s : Shape) (block : ℕ) → tasks_named s (cycle s block) ≡ true
cycle_named s block =
    let first : List Task = one (block_of block) nothing ∷ look_messages ∷ [] in
    named_append s (first ++ map return_front (insts_of s) ++ map running s.plan) (one (done_of block) nothing ∷ [])
    (named_append s (first ++ map return_front (insts_of s)) (map running s.plan)
    (named_append s first (map return_front (insts_of s)) refl (range_named s 0 (length s.insts) (omega arith)))
    (named_map s running s.plan (λ i. refl)))
    refl

cycles_named : (s : Shape) (block more : ℕ) → tasks_named s (cycles s block more) ≡ true
cycles_named s block zero = refl
cycles_named s block (suc more) = named_append s (cycle s block) (cycles s (suc block) more) (cycle_named s block) (cycles_named s (suc block) more)

stages_append : (s : Shape) (first second : List Due) → list_all (due_named s) first ≡ true → list_all (due_named s) second ≡ true → list_all (due_named s) (first ++ second) ≡ true
stages_append s [] second f g = g
stages_append s (x ∷ first) second f g =
    let both = and_parts (due_named s x) (list_all (due_named s) first) f in and_from (due_named s x) (list_all (due_named s) (first ++ second)) both.0 (stages_append s first second both.1 g)

stages_named : (s : Shape) (what : ActionKind) (k inst worker : ℕ) → inst_there s inst ≡ true → list_all (due_named s) (stages_of what k inst worker) ≡ true
stages_named s kind.Set k inst worker there = refl
stages_named s kind.Patch k inst worker there = refl
stages_named s kind.Save k inst worker there = refl
stages_named s kind.RestoreSafe k inst worker there = refl
stages_named s kind.Restore k inst worker there = and_from (inst_there s inst) _ there (and_from (inst_there s inst) _ there (and_from (inst_there s inst) _ there (and_from (inst_there s inst) true there refl)))

stages_from_named : (s : Shape) (k : ℕ) (actions : List ShapeAction) → All (λ (it : ShapeAction). it.inst < length s.insts) actions → list_all (due_named s) (stages_from s k actions) ≡ true
stages_from_named s k [] all = refl
stages_from_named s k (it ∷ later) all =
    let here = All-head (λ (it : ShapeAction). it.inst < length s.insts) it later all in
    stages_append s (stages_of it.kind k it.inst (worker_of s it.inst)) (stages_from s (k + 1) later)
    (stages_named s it.kind k it.inst (worker_of s it.inst) (lt-ltb it.inst (length s.insts) here))
    (stages_from_named s (k + 1) later (All-tail (λ (it : ShapeAction). it.inst < length s.insts) it later all))

all_named : (s : Shape) (actor : Actor) → IsSession s → tasks_named s (tasks_of s actor) ≡ true
all_named s Audio session = named_append s (cycles s 0 s.blocks) (one (stop_of Audio) nothing ∷ []) (cycles_named s 0 s.blocks) refl
all_named s Control session =
    named_append s (opening s) (acting (stages_from s 0 s.actions) ∷ [])
    (named_append s (flat_map (λ inst. whole_call Control Make inst nothing) (insts_of s)) (flat_map (λ inst. whole_call Control Activate inst nothing) (insts_of s))
    (named_flat s (λ inst. whole_call Control Make inst nothing) (insts_of s) (λ i. refl))
    (named_flat s (λ inst. whole_call Control Activate inst nothing) (insts_of s) (λ i. refl)))
    (acts s (stages_from s 0 s.actions) (stages_from_named s 0 s.actions session.acted))
all_named s (Worker worker) session = refl

-- ---- a history

abbrev history_named : Shape → History → Bool
history_named s h = list_all (λ (x : Step). named s x.about) h

left_named : (s : Shape) (actor : Actor) (h : History) → IsSession s → history_named s h ≡ true → tasks_named s (left_after s actor h) ≡ true
left_named s actor [] session k = all_named s actor session
left_named s actor (x ∷ h) session k =
    let both = and_parts (named s x.about) (history_named s h) k in
    let it : Option Follows = follow s h x.about (left_after s actor h) x.entry in
    (and_parts (named s (about_in it)) (tasks_named s (left_in it)) (named_follow s h x.about (left_after s actor h) x.entry both.0 (left_named s actor h session both.1))).1

own_named : (s : Shape) (actor : Actor) (h : History) → history_named s h ≡ true → history_named s (own actor h) ≡ true
own_named s actor [] k = refl
own_named s actor (x ∷ h) k =
    let both = and_parts (named s x.about) (history_named s h) k in
    cond_both (is_by actor x.entry) (x ∷ own actor h) (own actor h) (λ (l : History). history_named s l ≡ true)
    (λ e. and_from (named s x.about) (history_named s (own actor h)) both.0 (own_named s actor h both.1)) (λ e. own_named s actor h both.1)

messages_append : (s : Shape) (messages : List Message) (message : Message) → list_all (named s) messages ≡ true → named s message ≡ true → list_all (named s) (messages ++ message ∷ []) ≡ true
messages_append s [] message k m = and_from (named s message) true m refl
messages_append s (x ∷ messages) message k m =
    let both = and_parts (named s x) (list_all (named s) messages) k in and_from (named s x) (list_all (named s) (messages ++ message ∷ [])) both.0 (messages_append s messages message both.1 m)

sent_named : (s : Shape) (ring : Ring) (h : History) → history_named s h ≡ true → list_all (named s) (sent_on ring h) ≡ true
sent_named s ring [] k = refl
sent_named s ring (x ∷ h) k =
    let both = and_parts (named s x.about) (history_named s h) k in by (is_on Send ring x.entry) (sent_named s ring h both.1) both.0
  where
    by : (b : Bool) → list_all (named s) (sent_on ring h) ≡ true → named s x.about ≡ true → list_all (named s) (put_last b x.about (sent_on ring h)) ≡ true
    by true older here = messages_append s (sent_on ring h) x.about older here
    by false older here = older

at_named : (s : Shape) (messages : List Message) (place : ℕ) → list_all (named s) messages ≡ true → named s (message_at messages place) ≡ true
at_named s [] place k = refl
at_named s (x ∷ messages) zero k = (and_parts (named s x) (list_all (named s) messages) k).0
at_named s (x ∷ messages) (suc place) k = at_named s messages place (and_parts (named s x) (list_all (named s) messages) k).1

brought_named : (s : Shape) (h : History) (e : Entry) → history_named s h ≡ true → named s (brought h e) ≡ true
brought_named s h e k =
    cond_both (is_kind Take e) (next_on (ring_at e.a) h) nothing (λ (m : Message). named s m ≡ true)
    (λ take. at_named s (sent_on (ring_at e.a) h) (count Take (ring_at e.a) h) (sent_named s (ring_at e.a) h k)) (λ other. refl)

about_named : (s : Shape) (h : History) (e : Entry) → IsSession s → history_named s h ≡ true → named s (about_in (follow_in s h e)) ≡ true
about_named s h e session k =
    let actor : Actor = actor_at e.actor in
    let mine = own_named s actor h k in
    let it : Option Follows = follow_in s h e in
    (and_parts (named s (about_in it)) (tasks_named s (left_in it))
    (named_follow s (own actor h) (brought h e) (left_after s actor (own actor h)) e (brought_named s h e k) (left_named s actor (own actor h) session mine))).0

kept_named : (s : Shape) (h : History) → IsSession s → IsKept s h → history_named s h ≡ true
kept_named s [] session kept = refl
kept_named s (x ∷ h) session kept =
    let older = kept_named s h session kept.2 in
    and_from (named s x.about) (history_named s h) (subst (λ (m : Message). named s m ≡ true) (sym kept.1) (about_named s h x.entry session older)) older

named_there : (s : Shape) (m : Message) → named s m ≡ true → IsAboutThere s m
named_there s (part inst) k = All-cons (λ (it : ℕ). it < length s.insts) inst [] (ltb-true inst (length s.insts) k) (All-nil (λ (it : ℕ). it < length s.insts))
named_there s (give inst) k = All-cons (λ (it : ℕ). it < length s.insts) inst [] (ltb-true inst (length s.insts) k) (All-nil (λ (it : ℕ). it < length s.insts))
named_there s nothing k = All-nil (λ (it : ℕ). it < length s.insts)
named_there s body k = All-nil (λ (it : ℕ). it < length s.insts)
named_there s (notice inst) k = All-nil (λ (it : ℕ). it < length s.insts)
named_there s (input action) k = All-nil (λ (it : ℕ). it < length s.insts)
named_there s (lend inst) k = All-nil (λ (it : ℕ). it < length s.insts)
named_there s (save action inst) k = All-nil (λ (it : ℕ). it < length s.insts)
named_there s (restore action inst) k = All-nil (λ (it : ℕ). it < length s.insts)
named_there s (answer action) k = All-nil (λ (it : ℕ). it < length s.insts)
named_there s close k = All-nil (λ (it : ℕ). it < length s.insts)

pub about_there : (s : Shape) (h : History) (e : Entry) → IsSession s → IsKept s h → IsAboutThere s (about_in (follow_in s h e))
about_there s h e session kept = named_there s (about_in (follow_in s h e)) (about_named s h e session (kept_named s h session kept))
