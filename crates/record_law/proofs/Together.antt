-- Where each actor's own steps fit its tasks, all together are in order.
use Rattle.std.proofs.Common.{◌≡◌, ℕ, ◌==◌, Bool, true, false, ◌&&◌, cond, List, [], ◌∷◌, ◌++◌, Option, Some, refl, sym, ap, ap₂, subst, ◌∙◌, ⊎_elim, eq-eqb, true≢false, nat_lt, nat_eq}
use Rattle.std.proofs.lemmas.Bool.{and_left, and_right, cond-true, cond-false, cases_Bool}
use Rattle.step_law.specs.declared.actor.Actor.{Actor}
use Rattle.step_law.specs.declared.actor.Actor.TheVariants.{Control, Worker}
use Rattle.step_law.specs.declared.entry.Entry.{Entry}
use Rattle.step_law.specs.declared.entry.Kind.TheVariants.{Take}
use Rattle.step_law.specs.declared.ring.Ring.{Ring}
use Rattle.step_law.specs.declared.ring.Ring.TheVariants.{AudioToControl, ControlToWorker, WorkerToControl, Jobs, LocalJobs}
use Rattle.step_law.specs.Actor.{actor_number, actor_at}
use Rattle.step_law.specs.Entry.{take_of, stop_of}
use Rattle.step_law.specs.Ring.{ring_number, ring_at}
use Rattle.step_law.proofs.EventLaws.{actor_same}
use Rattle.record_law.specs.declared.shape.Shape.{Shape}
use Rattle.record_law.specs.Entries.{is_by, is_kind, same_entry}
use Rattle.record_law.specs.Message.{Message, Step, History}
use Rattle.record_law.specs.Message.Message.{nothing}
use Rattle.record_law.specs.History.{next_on, own, waiting}
use Rattle.record_law.specs.Shape.{worker_of, works}
use Rattle.record_law.specs.Task.{Due, Task, Move, only_if, may_be, where_due}
use Rattle.record_law.specs.Task.Stage.{due, tell, ask, hear, front, restoring}
use Rattle.record_law.specs.Task.Task.{one, take_from, attempts, look_messages, return_front, running, notices, look_responses, serving, local_jobs, acting, closing, leftovers}
use Rattle.record_law.specs.Task.Move.{refuses, passes, goes}
use Rattle.record_law.specs.Worker.{effect, work_on, has_back, was_closed, serve_from}
use Rattle.record_law.specs.Control.{has_reached, sees, act, stages_after}
use Rattle.record_law.specs.Protocol.{Follows, move, then_left, follow, about_in, left_after, brought, follow_in, done_in}
use Rattle.record_law.specs.Fits.{Fits, entries_of, TogetherInOrder}
use Rattle.record_law.proofs.Classes.{after_append}

-- ---- what isn't a take doesn't ask what was taken

only_if_false : (b : Bool) (message : Message) (tasks : List Task) → b ≡ false → only_if b message tasks ≡ refuses
only_if_false true message tasks e = absurd (true≢false e)
only_if_false false message tasks e = refl

may_be_false : (b : Bool) (message : Message) (tasks : List Task) → b ≡ false → may_be b message tasks ≡ passes
may_be_false true message tasks e = absurd (true≢false e)
may_be_false false message tasks e = refl

module _ (e : Entry) (other : is_kind Take e ≡ false) where
  no_take : (actor : Actor) (ring : Ring) → same_entry (take_of actor ring) e ≡ false
  no_take actor ring =
      and_left ((e.actor == actor_number actor) && is_kind Take e && (e.a == ring_number ring)) (e.b == 0)
      (and_left ((e.actor == actor_number actor) && is_kind Take e) (e.a == ring_number ring) (and_right (e.actor == actor_number actor) (is_kind Take e) other))

  refused : (b : Bool) (m n : Message) (us ts : List Task) → b ≡ false → only_if b m us ≡ only_if b n ts
  refused b m n us ts none = only_if_false b m us none ∙ sym (only_if_false b n ts none)

  serve_same : (s : Shape) (worker : ℕ) (h : History) (m n : Message) (ring : Ring) → serve_from s worker h m ring e ≡ serve_from s worker h n ring e
  serve_same s worker h m n (ControlToWorker w) =
      refused (same_entry (take_of (Worker worker) (ControlToWorker worker)) e) m n (effect s worker m ++ serving worker ∷ []) (effect s worker n ++ serving worker ∷ [])
      (no_take (Worker worker) (ControlToWorker worker))
  serve_same s worker h m n (Jobs inst) =
      let take : Bool = same_entry (take_of (Worker worker) (Jobs inst)) e in
      let mine : Bool = nat_eq (worker_of s inst) worker in
      refused (take && mine && works s inst && has_back worker inst h) m n (work_on worker inst ++ serving worker ∷ []) (work_on worker inst ++ serving worker ∷ [])
      (and_left (take && mine && works s inst) (has_back worker inst h) (and_left (take && mine) (works s inst) (and_left take mine (no_take (Worker worker) (Jobs inst)))))
  serve_same s worker h m n ring = refl

  act_same : (s : Shape) (h : History) (m n : Message) (stages : List Due) → act s h m stages e ≡ act s h n stages e
  act_same s h m n [] = refl
  act_same s h m n ((k, due block) ∷ later) = ap (λ it. cond (has_reached block h) it (sees s k block later e)) (act_same s h m n later)
  act_same s h m n ((k, tell message) ∷ later) = refl
  act_same s h m n ((k, ask worker message) ∷ later) = refl
  act_same s h m n ((k, hear worker) ∷ later) =
      refused (same_entry (take_of Control (WorkerToControl worker)) e) m n (acting later ∷ []) (acting later ∷ []) (no_take Control (WorkerToControl worker))
  act_same s h m n ((k, front inst) ∷ later) = refl
  act_same s h m n ((k, restoring action inst) ∷ later) = refl

  not_first : (m n x y : Move) → x ≡ y → cond (same_entry (take_of Control AudioToControl) e) m x ≡ cond (same_entry (take_of Control AudioToControl) e) n y
  not_first m n x y same =
      cond-false (same_entry (take_of Control AudioToControl) e) m x (no_take Control AudioToControl)
      ∙ same
      ∙ sym (cond-false (same_entry (take_of Control AudioToControl) e) n y (no_take Control AudioToControl))

  move_same : (s : Shape) (h : History) (m n : Message) (task : Task) → move s h m task e ≡ move s h n task e
  move_same s h m n (one it message) = refl
  move_same s h m n (take_from actor ring) = refused (same_entry (take_of actor ring) e) m n [] [] (no_take actor ring)
  move_same s h m n (attempts actor ring most) = refl
  move_same s h m n look_messages = refl
  move_same s h m n (return_front inst) = refl
  move_same s h m n (running inst) = refl
  move_same s h m n (notices inst most) = refl
  move_same s h m n (look_responses inst) = refl
  move_same s h m n (serving worker) =
      ap (λ it. cond (same_entry (stop_of (Worker worker)) e) (only_if (was_closed worker h) nothing []) it) (serve_same s worker h m n (ring_at e.a))
  move_same s h m n (local_jobs worker inst) =
      let tasks : List Task = work_on worker inst ++ local_jobs worker inst ∷ [] in
      ap (where_due (nat_lt 0 (waiting (LocalJobs inst) h)))
      (refused (same_entry (take_of (Worker worker) (LocalJobs inst)) e) m n tasks tasks (no_take (Worker worker) (LocalJobs inst)))
  move_same s h m n (acting stages) =
      not_first (goes m (acting (stages_after m stages) ∷ [])) (goes n (acting (stages_after n stages) ∷ [])) (act s h m stages e) (act s h n stages e) (act_same s h m n stages)
  move_same s h m n (closing worker) = not_first (goes m (closing worker ∷ [])) (goes n (closing worker ∷ [])) _ _ refl
  move_same s h m n (leftovers ring) =
      may_be_false (same_entry (take_of Control ring) e) m (leftovers ring ∷ []) (no_take Control ring)
      ∙ sym (may_be_false (same_entry (take_of Control ring) e) n (leftovers ring ∷ []) (no_take Control ring))

  pub follow_same : (s : Shape) (h : History) (m n : Message) (tasks : List Task) → follow s h m tasks e ≡ follow s h n tasks e
  follow_same s h m n [] = refl
  follow_same s h m n (task ∷ tasks) = ap₂ (λ it rest. then_left it tasks rest) (move_same s h m n task) (follow_same s h m n tasks)

-- what a step brings by its own word is what it brings by its place
brought_same : (s : Shape) (own_steps h : History) (x : Step) (tasks : List Task) → (is_kind Take x.entry ≡ true → x.about ≡ next_on (ring_at x.entry.a) h)
    → follow s own_steps (brought h x.entry) tasks x.entry ≡ follow s own_steps x.about tasks x.entry
brought_same s own_steps h x tasks turn =
    ⊎_elim
    (λ take. ap (λ m. follow s own_steps m tasks x.entry) (cond-true (is_kind Take x.entry) (next_on (ring_at x.entry.a) h) nothing take ∙ sym (turn take)))
    (λ other. follow_same x.entry other s own_steps (brought h x.entry) x.about tasks)
    (cases_Bool (is_kind Take x.entry))

-- ---- an actor's own steps in a history

fits_kept : (s : Shape) (actor : Actor) (x : Step) (older : History) (b : Bool) → Fits s actor (cond b (x ∷ older) older) → Fits s actor older
fits_kept s actor x older true fits = fits.1
fits_kept s actor x older false fits = fits

own_newest : (x : Step) (h : History) → own (actor_at x.entry.actor) (x ∷ h) ≡ x ∷ own (actor_at x.entry.actor) h
own_newest x h =
    let actor : Actor = actor_at x.entry.actor in
    cond-true (is_by actor x.entry) (x ∷ own actor h) (own actor h) (eq-eqb x.entry.actor (actor_number actor) (sym (actor_same x.entry.actor)))

abbrev with_about : Entry → History → Option Follows → History
with_about e h o = record { entry = e; about = about_in o } ∷ h

pub together_in_order : TogetherInOrder
together_in_order s [] fits turns = (tt, refl)
together_in_order s (x ∷ h) fits turns =
    let actor : Actor = actor_at x.entry.actor in
    let older = together_in_order s h (λ a. fits_kept s a x (own a h) (is_by a x.entry) (fits a)) turns.1 in
    let newest : Fits s actor (x ∷ own actor h) = subst (Fits s actor) (own_newest x h) (fits actor) in
    let goes_on = newest.0 in
    let here : follow_in s h x.entry ≡ Some (record { about = x.about; left = goes_on.0 }) =
    brought_same s (own actor h) h x (left_after s actor (own actor h)) turns.0 ∙ goes_on.1 in
    let again : done_in s h x.entry ≡ x ∷ h = ap (with_about x.entry h) here in (
      ((goes_on.0, here), older.0),
      after_append s [] (entries_of h) (x.entry ∷ []) ∙ ap (λ l. done_in s l x.entry) older.1 ∙ again,
    )
