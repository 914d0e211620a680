-- In a record that keeps the rules, a take is about the message that is next on its ring.
use Rattle.std.proofs.Common.{◌≡◌, ℕ, ◌+◌, ◌-◌, nat_lt, nat_eq, nat_le, Bool, true, false, not, ◌&&◌, ◌||◌, cond, List, [], ◌∷◌, ◌++◌, length, refl, subst, ⊎_elim}
use Rattle.std.proofs.lemmas.Bool.{and_parts, or_cases, not-true, both_ways}
use Rattle.step_law.specs.declared.actor.Actor.{Actor}
use Rattle.step_law.specs.declared.actor.Actor.TheVariants.{Audio, Control, Worker}
use Rattle.step_law.specs.declared.call.Call.TheVariants.{Run, Restore}
use Rattle.step_law.specs.declared.entry.Entry.{Entry}
use Rattle.step_law.specs.declared.entry.Kind.TheVariants.{Take}
use Rattle.step_law.specs.declared.ring.Ring.{Ring}
use Rattle.step_law.specs.declared.ring.Ring.TheVariants.{ControlToAudio, AudioToControl, ControlToWorker, WorkerToControl, Jobs, Responses, LocalJobs}
use Rattle.step_law.specs.Entry.{take_of, send_of, full_of, long_of, look_of, begin_of, end_of, stop_of, beat_of}
use Rattle.step_law.specs.Ring.{ring_at}
use Rattle.record_law.specs.declared.shape.Shape.{Shape}
use Rattle.record_law.specs.Entries.{is_kind, same_entry}
use Rattle.record_law.specs.Message.{Message, History}
use Rattle.record_law.specs.Message.Message.{nothing, body, notice, part, restore, close}
use Rattle.record_law.specs.Task.{Due, Task, Move, only_if, may_be, where_due}
use Rattle.record_law.specs.Task.Stage.{due, tell, ask, hear, front, restoring}
use Rattle.record_law.specs.Task.Task.{one, take_from, attempts, look_messages, return_front, running, notices, look_responses, serving, local_jobs, acting, closing, leftovers}
use Rattle.record_law.specs.Task.Move.{refuses, passes, goes}
use Rattle.record_law.specs.Audio.{front_place, is_here, is_wanted, times, try_to_send, is_attempt, look_at, run_tasks, delivery}
use Rattle.record_law.specs.History.{waiting}
use Rattle.record_law.specs.Shape.{worker_of, works}
use Rattle.record_law.specs.Worker.{work_on, effect, has_back, was_closed, serve_from}
use Rattle.record_law.specs.Control.{ending, has_reached, ends, sees, act, stages_after}
use Rattle.record_law.specs.Protocol.{move}
use Rattle.record_law.proofs.Same.{same_means}

-- a task that names an entry names no take
abbrev pub is_no_take : Task → Bool
is_no_take (one it message) = not (is_kind Take it)
is_no_take task = true

-- what a move is about, where it goes on
abbrev pub about_move : Message → Move → Message
about_move otherwise refuses = otherwise
about_move otherwise passes = otherwise
about_move otherwise (goes message tasks) = message

-- ---- a take carried out is about what was taken

module _ (e : Entry) (take : is_kind Take e ≡ true) (taken : Message) where
  -- a move is about what was taken, or doesn't go on
  abbrev Brings : Move → Type 0
  Brings m = about_move taken m ≡ taken

  -- an entry of another kind isn't the take
  never : (it : Entry) → is_kind Take it ≡ false → same_entry it e ≡ true → ⊥
  never it other same = both_ways (is_kind Take it) other (subst (λ x. is_kind Take x ≡ true) (same_means it e same) take)

  only_taken : (b : Bool) (tasks : List Task) → Brings (only_if b taken tasks)
  only_taken true tasks = refl
  only_taken false tasks = refl

  only_never : (b : Bool) (message : Message) (tasks : List Task) → (b ≡ true → ⊥) → Brings (only_if b message tasks)
  only_never true message tasks none = absurd (none refl)
  only_never false message tasks none = refl

  may_taken : (b : Bool) (tasks : List Task) → Brings (may_be b taken tasks)
  may_taken true tasks = refl
  may_taken false tasks = refl

  may_never : (b : Bool) (message : Message) (tasks : List Task) → (b ≡ true → ⊥) → Brings (may_be b message tasks)
  may_never true message tasks none = absurd (none refl)
  may_never false message tasks none = refl

  where_brings : (b : Bool) (m : Move) → Brings m → Brings (where_due b m)
  where_brings true m brings = brings
  where_brings false m brings = refl

  if_brings : (b : Bool) (m n : Move) → (b ≡ true → Brings m) → Brings n → Brings (cond b m n)
  if_brings true m n first second = first refl
  if_brings false m n first second = second

  no_attempt : (actor : Actor) (ring : Ring) → is_attempt actor ring e ≡ true → ⊥
  no_attempt actor ring is =
      ⊎_elim
      (λ two. ⊎_elim (never (send_of actor ring) refl) (never (full_of actor ring) refl) (or_cases (same_entry (send_of actor ring) e) (same_entry (full_of actor ring) e) two))
      (never (long_of actor ring) refl)
      (or_cases (same_entry (send_of actor ring) e || same_entry (full_of actor ring) e) (same_entry (long_of actor ring) e) is)

  tries : (actor : Actor) (ring : Ring) (message : Message) (most : ℕ) (again : List Task) → Brings (try_to_send actor ring message most again e)
  tries actor ring message most again =
      may_never (nat_lt 0 most && is_attempt actor ring e) message again (λ both. no_attempt actor ring (and_parts (nat_lt 0 most) (is_attempt actor ring e) both).1)

  looks : (ring : Ring) (each : List Task) → Brings (look_at ring each e)
  looks ring each = only_never (same_entry (look_of Audio ring e.b) e) nothing (times e.b each) (never (look_of Audio ring e.b) refl)

  end_brings : (s : Shape) (k : ℕ) → Brings (ends s k e)
  end_brings s k = only_never (same_entry (beat_of (s.blocks + 1)) e) nothing (ending s k) (never (beat_of (s.blocks + 1)) refl)

  sees_brings : (s : Shape) (k block : ℕ) (later : List Due) → Brings (sees s k block later e)
  sees_brings s k block later =
      if_brings (same_entry (beat_of e.a) e && nat_le block e.a && nat_le e.a s.blocks) (goes nothing (acting later ∷ [])) (ends s k e)
      (λ is. absurd (never (beat_of e.a) refl
      (and_parts (same_entry (beat_of e.a) e) (nat_le block e.a) (and_parts (same_entry (beat_of e.a) e && nat_le block e.a) (nat_le e.a s.blocks) is).0).0))
      (end_brings s k)

  act_brings : (s : Shape) (h : History) (stages : List Due) → Brings (act s h taken stages e)
  act_brings s h [] = end_brings s (length s.actions)
  act_brings s h ((k, due block) ∷ later) =
      if_brings (has_reached block h) (act s h taken later e) (sees s k block later e) (λ reached. act_brings s h later) (sees_brings s k block later)
  act_brings s h ((k, tell message) ∷ later) =
      if_brings (same_entry (send_of Control ControlToAudio) e) (goes message (acting later ∷ [])) (ends s k e)
      (λ is. absurd (never (send_of Control ControlToAudio) refl is)) (end_brings s k)
  act_brings s h ((k, ask worker message) ∷ later) =
      only_never (same_entry (send_of Control (ControlToWorker worker)) e) message (acting later ∷ []) (never (send_of Control (ControlToWorker worker)) refl)
  act_brings s h ((k, hear worker) ∷ later) = only_taken (same_entry (take_of Control (WorkerToControl worker)) e) (acting later ∷ [])
  act_brings s h ((k, front inst) ∷ later) = end_brings s k
  act_brings s h ((k, restoring action inst) ∷ later) =
      only_never (same_entry (begin_of Control Restore inst) e) (restore action inst) (one (end_of Control Restore inst) nothing ∷ acting later ∷ []) (never (begin_of Control Restore inst) refl)

  serves : (s : Shape) (worker : ℕ) (h : History) (ring : Ring) → Brings (serve_from s worker h taken ring e)
  serves s worker h (ControlToWorker other) = only_taken (same_entry (take_of (Worker worker) (ControlToWorker worker)) e) (effect s worker taken ++ serving worker ∷ [])
  serves s worker h (Jobs inst) =
      only_taken (same_entry (take_of (Worker worker) (Jobs inst)) e && nat_eq (worker_of s inst) worker && works s inst && has_back worker inst h) (work_on worker inst ++ serving worker ∷ [])
  serves s worker h ring = refl

  pub move_brings : (s : Shape) (h : History) (task : Task) → is_no_take task ≡ true → Brings (move s h taken task e)
  move_brings s h (one it message) other = only_never (same_entry it e) message [] (never it (not-true (is_kind Take it) other))
  move_brings s h (take_from actor ring) other = only_taken (same_entry (take_of actor ring) e) []
  move_brings s h (attempts actor ring most) other = tries actor ring body most (attempts actor ring (most - 1) ∷ [])
  move_brings s h look_messages other = looks ControlToAudio (take_from Audio ControlToAudio ∷ [])
  move_brings s h (return_front inst) other =
      where_brings (is_wanted (front_place inst h)) (only_if (same_entry (send_of Audio AudioToControl) e || same_entry (full_of Audio AudioToControl) e) (part inst) [])
      (only_never (same_entry (send_of Audio AudioToControl) e || same_entry (full_of Audio AudioToControl) e) (part inst) []
      (λ is. ⊎_elim (never (send_of Audio AudioToControl) refl) (never (full_of Audio AudioToControl) refl)
      (or_cases (same_entry (send_of Audio AudioToControl) e) (same_entry (full_of Audio AudioToControl) e) is)))
  move_brings s h (running inst) other =
      where_brings (is_here (front_place inst h)) (only_if (same_entry (begin_of Audio Run inst) e) nothing (run_tasks s inst))
      (only_never (same_entry (begin_of Audio Run inst) e) nothing (run_tasks s inst) (never (begin_of Audio Run inst) refl))
  move_brings s h (notices inst most) other = tries Audio AudioToControl (notice inst) most (notices inst (most - 1) ∷ [])
  move_brings s h (look_responses inst) other = looks (Responses inst) (delivery inst)
  move_brings s h (serving worker) other =
      if_brings (same_entry (stop_of (Worker worker)) e) (only_if (was_closed worker h) nothing []) (serve_from s worker h taken (ring_at e.a) e) (λ is. absurd (never (stop_of (Worker worker)) refl is))
      (serves s worker h (ring_at e.a))
  move_brings s h (local_jobs worker inst) other =
      where_brings (nat_lt 0 (waiting (LocalJobs inst) h)) (only_if (same_entry (take_of (Worker worker) (LocalJobs inst)) e) taken (work_on worker inst ++ local_jobs worker inst ∷ []))
      (only_taken (same_entry (take_of (Worker worker) (LocalJobs inst)) e) (work_on worker inst ++ local_jobs worker inst ∷ []))
  move_brings s h (acting stages) other =
      if_brings (same_entry (take_of Control AudioToControl) e) (goes taken (acting (stages_after taken stages) ∷ [])) (act s h taken stages e) (λ is. refl) (act_brings s h stages)
  move_brings s h (closing worker) other =
      if_brings (same_entry (take_of Control AudioToControl) e) (goes taken (closing worker ∷ [])) (only_if (same_entry (send_of Control (ControlToWorker worker)) e) close []) (λ is. refl)
      (only_never (same_entry (send_of Control (ControlToWorker worker)) e) close [] (never (send_of Control (ControlToWorker worker)) refl))
  move_brings s h (leftovers ring) other = may_taken (same_entry (take_of Control ring) e) (leftovers ring ∷ [])
