-- The order of work of a worker. It reads the worker's own steps alone.
use Rattle.std.specs.Prelude.{ℕ, nat_lt, nat_eq, Bool, true, false, ◌&&◌, if◌then◌else◌, List, [], ◌∷◌, ◌++◌}
use Rattle.std.specs.List.{list_any}
use Rattle.step_law.specs.declared.actor.Actor.TheVariants.{Worker}
use Rattle.step_law.specs.declared.call.Call.TheVariants.{Work, Save, RestoreSafe}
use Rattle.step_law.specs.declared.entry.Entry.{Entry}
use Rattle.step_law.specs.declared.entry.Kind.TheVariants.{Take, Send}
use Rattle.step_law.specs.declared.ring.Ring.{Ring}
use Rattle.step_law.specs.declared.ring.Ring.TheVariants.{ControlToWorker, WorkerToControl, Jobs, Responses, LocalJobs}
use Rattle.step_law.specs.Entry.{take_of, send_of, begin_of, end_of, stop_of}
use Rattle.step_law.specs.Ring.{ring_at}
use Rattle.record_law.specs.declared.shape.Shape.{Shape}
use Rattle.record_law.specs.Entries.{is_on, same_entry}
use Rattle.record_law.specs.Message.{Message, Step, History}
use Rattle.record_law.specs.Message.Message.{nothing, lend, part, give, save, restore, answer, close}
use Rattle.record_law.specs.History.{waiting}
use Rattle.record_law.specs.Shape.{worker_of, works}
use Rattle.record_law.specs.Task.{Task, Move, only_if, where_due}
use Rattle.record_law.specs.Task.Task.{one, attempts, serving, local_jobs}
use Rattle.record_law.specs.Task.Move.{refuses}
use Rattle.record_law.specs.Audio.{at_most, whole_call}

-- it serves until it stops
abbrev pub worker_tasks : ℕ → List Task
worker_tasks worker = serving worker ∷ []

-- a job is worked, with attempts to respond
abbrev pub work_on : ℕ → ℕ → List Task
work_on worker inst =
    one (begin_of (Worker worker) Work inst) nothing ∷ attempts (Worker worker) (Responses inst) (at_most true) ∷ one (end_of (Worker worker) Work inst) nothing ∷ []

abbrev pub answering : ℕ → Message → List Task
answering worker message = one (send_of (Worker worker) (WorkerToControl worker)) message ∷ []

-- what a worker does about a message that control sent it
abbrev pub effect : Shape → ℕ → Message → List Task
effect s worker (save action inst) = whole_call (Worker worker) Save inst (save action inst) ++ answering worker (answer action)
effect s worker (restore action inst) =
    one (begin_of (Worker worker) RestoreSafe inst) (restore action inst)
    ∷ attempts (Worker worker) (LocalJobs inst) (at_most (works s inst))
    ∷ one (end_of (Worker worker) RestoreSafe inst) nothing
    ∷ local_jobs worker inst
    ∷ answering worker (answer action)
effect s worker (lend inst) = answering worker (part inst)
effect s worker message = []

-- ---- what its own steps say

abbrev pub given_back : ℕ → Message → Bool → Bool
given_back inst (give other) before = if nat_eq other inst then true else before
given_back inst message before = before

abbrev pub sent_back : ℕ → Message → Bool → Bool
sent_back inst (part other) before = if nat_eq other inst then false else before
sent_back inst message before = before

abbrev pub back_after : ℕ → ℕ → Step → Bool → Bool
back_after worker inst x before =
    if is_on Take (ControlToWorker worker) x.entry then given_back inst x.about before
    else if is_on Send (WorkerToControl worker) x.entry then sent_back inst x.about before else before

-- it has the back of an instance of its own, unless it sent it to control
abbrev pub has_back : ℕ → ℕ → History → Bool
has_back worker inst [] = true
has_back worker inst (x ∷ h) = back_after worker inst x (has_back worker inst h)

abbrev pub is_close : Message → Bool
is_close close = true
is_close message = false

-- it was told to stop
abbrev pub was_closed : ℕ → History → Bool
was_closed worker h = list_any (λ (x : Step). is_on Take (ControlToWorker worker) x.entry && is_close x.about) h

-- ---- moves

-- an ask of control is taken and done; so is a job of an instance of its own of which it has the back
abbrev pub serve_from : Shape → ℕ → History → Message → Ring → Entry → Move
serve_from s worker h taken (ControlToWorker other) e =
    only_if (same_entry (take_of (Worker worker) (ControlToWorker worker)) e) taken (effect s worker taken ++ serving worker ∷ [])
serve_from s worker h taken (Jobs inst) e =
    only_if (same_entry (take_of (Worker worker) (Jobs inst)) e && nat_eq (worker_of s inst) worker && works s inst && has_back worker inst h) taken
    (work_on worker inst ++ serving worker ∷ [])
serve_from s worker h taken ring e = refuses

-- it stops only once it was told to
abbrev pub serve : Shape → ℕ → History → Message → Entry → Move
serve s worker h taken e =
    if same_entry (stop_of (Worker worker)) e then only_if (was_closed worker h) nothing [] else serve_from s worker h taken (ring_at e.a) e

-- the jobs that a restore scheduled are all worked before anything else
abbrev pub work_local : ℕ → ℕ → History → Message → Entry → Move
work_local worker inst h taken e =
    where_due (nat_lt 0 (waiting (LocalJobs inst) h))
    (only_if (same_entry (take_of (Worker worker) (LocalJobs inst)) e) taken (work_on worker inst ++ local_jobs worker inst ∷ []))
