-- How an entry of one actor moves the tracker of all.
use Rattle.std.proofs.Common.{◌≡◌, ℕ, zero, suc, ◌+◌, ◌<◌, ◌≤◌, Bool, true, false, cond, List, [], ◌∷◌, ◌++◌, length, slice_set, Option, Some, None, refl, sym, ap, subst, ◌∙◌, arith, is_some, ⊎_elim, ◌⊎◌, inl, inr}
use Rattle.std.specs.List.{slice_get}
use Rattle.std.proofs.lemmas.Bool.{cases_eq}
use Rattle.std.proofs.lemmas.List.{length_push}
use Rattle.std.specs.Vec.{with_item}
use Rattle.std.proofs.lemmas.Option.{same_Some, none-some}
use Rattle.step_law.specs.declared.actor.Actor.{Actor}
use Rattle.step_law.specs.declared.actor.Actor.TheVariants.{Audio, Control, Worker}
use Rattle.step_law.specs.declared.entry.Entry.{Entry}
use Rattle.step_law.specs.Actor.{actor_number, actor_at}
use Rattle.record_law.specs.declared.shape.Shape.{Shape}
use Rattle.record_law.specs.Entries.{is_by}
use Rattle.record_law.specs.History.{own}
use Rattle.record_law.specs.Message.{Step, History}
use Rattle.record_law.specs.Protocol as law
use Rattle.record_law.specs.Task.{Task}
use Rattle.audio_order.specs.declared.audio_tracker.AudioTracker.{AudioTracker}
use Rattle.audio_order.specs.Audio.{audio_left}
use Rattle.audio_order.specs.Tracked.{AudioStands, AudioGoes}
use Rattle.control_order.specs.declared.control_tracker.ControlTracker.{ControlTracker}
use Rattle.control_order.specs.Control.{control_left}
use Rattle.control_order.specs.TrackedControl.{ControlStands, ControlGoes}
use Rattle.record_terms.specs.declared.message.Message.{Message}
use Rattle.order_base.specs.Answer.{follows_as, step_of}
use Rattle.record_terms.specs.Message.{meaning_of}
use Rattle.order_base.proofs.Lists.{get_set_same, get_set_other}
use Rattle.order_base.proofs.OwnSteps.{own_newest, own_other}
use Rattle.worker_order.specs.declared.worker_tracker.WorkerTracker.{WorkerTracker}
use Rattle.worker_order.specs.Locals.{most_counted}
use Rattle.worker_order.specs.TrackedWorker.{IsWorker, WorkerStands, WorkerGoes}
use Rattle.worker_order.specs.Worker.{worker_left}
use Rattle.record_order.specs.declared.tracker.Tracker.{Tracker}
use Rattle.record_order.specs.Tracked.{AreWorkers, HasWorkers, IsTracker, WorkersStand, Stands, Says, Goes}

-- an actor's own steps are at most all
own_short : (actor : Actor) (h : History) → length (own actor h) ≤ length h
own_short actor [] = omega arith
own_short actor (x ∷ h) = by (is_by actor x.entry) (own_short actor h)
  where
    by : (b : Bool) → length (own actor h) ≤ length h → length (cond b (x ∷ own actor h) (own actor h)) ≤ suc (length h)
    by true less = omega (arith, less)
    by false less = omega (arith, less)

-- what an entry is by an actor's tasks
abbrev by_tasks : Shape → History → Entry → Actor → Option law.Follows
by_tasks s h e actor = law.follow s (own actor h) (law.brought h e) (law.left_after s actor (own actor h)) e

says_as : (left : List Task) (answer : Option Message) (follows : Option law.Follows) → follows ≡ follows_as left answer → Says answer follows
says_as left None follows is = is
says_as left (Some about) follows is = (ap is_some is, ap law.about_in is)

-- an entry that is done is the step of its answer
done_as : (s : Shape) (h : History) (e : Entry) (left : List Task) (about : Message) → law.follow_in s h e ≡ follows_as left (Some about)
    → step_of e about ∷ h ≡ law.done_in s h e
done_as s h e left about is = let P : Option law.Follows → History = λ o. record { entry = e; about = law.about_in o } ∷ h in ap P (sym is)

module _ (s : Shape) (before : Tracker) (brought : Message) (e : Entry) where
  -- the other actors' own steps stay
  workers_other : (workers : List WorkerTracker) (x : Step) (h : History) → AreWorkers s workers → ((w : ℕ) → x.entry.actor ≡ 1 + suc w → ⊥)
      → WorkersStand s workers h → WorkersStand s workers (x ∷ h)
  workers_other workers x h are other stand i it at =
      subst (WorkerStands s it) (sym (own_other (Worker it.worker) x h (λ same. other i (omega (arith, same, (are i it at).0))))) (stand i it at)

  -- ---- audio

  module _ (by : e.actor ≡ 0) (audio : AudioTracker) where
    abbrev audio_after : Tracker
    audio_after = record before { audio = audio }

    audio_follows : (answer : Option Message) → AudioGoes s before.audio audio brought e answer → (h : History) → Stands s before h → meaning_of brought ≡ law.brought h e
        → law.follow_in s h e ≡ follows_as (audio_left s audio.stage) answer
    audio_follows answer goes h stands is =
        ap (λ n. by_tasks s h e (actor_at n)) by
        ∙ ap (λ m. law.follow s (own Audio h) m (law.left_after s Audio (own Audio h)) e) (sym is)
        ∙ goes.follows (own Audio h) stands.audio

    pub joint_audio : IsTracker s before → (answer : Option Message) → AudioGoes s before.audio audio brought e answer → Goes s before audio_after brought e answer
    joint_audio tracker None goes = record {
      says = λ h short stands is. audio_follows None goes h stands is;
      stands = tt;
      stays = record { audio = goes.stays; control = refl; workers = refl };
    }
    joint_audio tracker (Some about) goes =
        let left = audio_left s audio.stage in
        let x : Step = step_of e about in record {
          says = λ h short stands is. says_as left (Some about) (law.follow_in s h e) (audio_follows (Some about) goes h stands is);
          stands = λ h short stands is.
              subst (Stands s audio_after) (done_as s h e left about (audio_follows (Some about) goes h stands is)) (record {
                audio = subst (AudioStands s audio) (sym (own_newest Audio x h by)) (goes.stands (own Audio h) stands.audio);
                control = subst (ControlStands s before.control) (sym (own_other Control x h (λ same. absurd (omega (arith, same, by))))) stands.control;
                workers = workers_other before.workers.items x h tracker.workers (λ w same. absurd (omega (arith, same, by))) stands.workers;
              });
          stays = tt;
        }

  -- ---- control

  module _ (by : e.actor ≡ 1) (control : ControlTracker) where
    abbrev control_after : Tracker
    control_after = record before { control = control }

    control_follows : (answer : Option Message) → ControlGoes s before.control control brought e answer → (h : History) → Stands s before h → meaning_of brought ≡ law.brought h e
        → law.follow_in s h e ≡ follows_as (control_left s control.stage) answer
    control_follows answer goes h stands is =
        ap (λ n. by_tasks s h e (actor_at n)) by
        ∙ ap (λ m. law.follow s (own Control h) m (law.left_after s Control (own Control h)) e) (sym is)
        ∙ goes.follows (own Control h) stands.control

    pub joint_control : IsTracker s before → (answer : Option Message) → ControlGoes s before.control control brought e answer
        → Goes s before control_after brought e answer
    joint_control tracker None goes = record {
      says = λ h short stands is. control_follows None goes h stands is;
      stands = tt;
      stays = record { audio = refl; control = goes.stays; workers = refl };
    }
    joint_control tracker (Some about) goes =
        let left = control_left s control.stage in
        let x : Step = step_of e about in record {
          says = λ h short stands is. says_as left (Some about) (law.follow_in s h e) (control_follows (Some about) goes h stands is);
          stands = λ h short stands is.
              subst (Stands s control_after) (done_as s h e left about (control_follows (Some about) goes h stands is)) (record {
                audio = subst (AudioStands s before.audio) (sym (own_other Audio x h (λ same. absurd (omega (arith, same, by))))) stands.audio;
                control = subst (ControlStands s control) (sym (own_newest Control x h by)) (goes.stands (own Control h) stands.control);
                workers = workers_other before.workers.items x h tracker.workers (λ w same. absurd (omega (arith, same, by))) stands.workers;
              });
          stays = tt;
        }

-- ---- workers

-- what a list has after its last item is added
get_push : {X : Type 0} (xs : List X) (y x : X) (i : ℕ) → slice_get (xs ++ y ∷ []) i ≡ Some x → (slice_get xs i ≡ Some x) ⊎ ((i ≡ length xs) × (x ≡ y))
get_push [] y x zero at = inr (refl, sym (same_Some y x at))
get_push [] y x (suc i) at = absurd (none-some x at)
get_push (z ∷ zs) y x zero at = inl at
get_push (z ∷ zs) y x (suc i) at = ⊎_elim (λ inside. inl inside) (λ last. inr (ap suc last.0, last.1)) (get_push zs y x i at)

-- writing what stands there changes nothing
set_same : {X : Type 0} (xs : List X) (i : ℕ) (x : X) → slice_get xs i ≡ Some x → slice_set xs i x ≡ xs
set_same [] i x at = refl
set_same (z ∷ zs) zero x at = ap (λ y. y ∷ zs) (sym (same_Some z x at))
set_same (z ∷ zs) (suc i) x at = ap (λ ys. z ∷ ys) (set_same zs i x at)

pub has_more : (s : Shape) (workers : List WorkerTracker) (it : WorkerTracker) (n : ℕ) → HasWorkers s workers n → it.worker ≡ n + 1 → IsWorker s it → WorkerStands s it []
    → HasWorkers s (workers ++ it ∷ []) (n + 1)
has_more s workers it n has number is stands = record {
  count = length_push workers it ∙ ap (λ m. m + 1) has.count;
  are = λ i other at.
      ⊎_elim (λ inside. has.are i other inside)
      (λ last.
      let same : other.worker ≡ i + 1 = ap (λ (w : WorkerTracker). w.worker) last.1 ∙ number ∙ ap (λ m. m + 1) (sym has.count ∙ sym last.0) in
      (same, subst (IsWorker s) (sym last.1) is))
      (get_push workers it other i at);
  stand = λ i other at.
      ⊎_elim (λ inside. has.stand i other inside) (λ last. subst (λ w. WorkerStands s w []) (sym last.1) stands) (get_push workers it other i at);
}

pub set_workers : (s : Shape) (workers : List WorkerTracker) (i : ℕ) (old new : WorkerTracker) → slice_get workers i ≡ Some old → AreWorkers s workers
    → new.worker ≡ old.worker → IsWorker s new → AreWorkers s (slice_set workers i new)
set_workers s workers i old new was are number is j it at =
    ⊎_elim
    (λ (same : i ≡ j).
    let here : it ≡ new = get_set_same workers i new it (ap (slice_get (slice_set workers i new)) same ∙ at) in (
      ap (λ (w : WorkerTracker). w.worker) here ∙ number ∙ (are i old was).0 ∙ ap (λ n. n + 1) same,
      subst (IsWorker s) (sym here) is,
    ))
    (λ (differ : i ≡ j → ⊥). are j it (sym (get_set_other workers i j new differ) ∙ at))
    (cases_eq i j)

module _ (s : Shape) (before : Tracker) (brought : Message) (e : Entry) (i : ℕ) (old new : WorkerTracker) (was : slice_get before.workers.items i ≡ Some old)
    (by : e.actor ≡ 2 + i) (tracker : IsTracker s before) (number : new.worker ≡ old.worker) where
  abbrev worker_after : Tracker
  worker_after = record before { workers = with_item before.workers i new }

  is_number : old.worker ≡ i + 1
  is_number = (tracker.workers i old was).0

  worker_follows : (answer : Option Message) → WorkerGoes s old new brought e answer → (h : History) → length h < most_counted → Stands s before h
      → meaning_of brought ≡ law.brought h e → law.follow_in s h e ≡ follows_as (worker_left s new.worker new.stage) answer
  worker_follows answer goes h short stands is =
      let at : e.actor ≡ suc (suc i) = omega (arith, by) in
      let same : suc i ≡ old.worker = omega (arith, is_number) in
      ap (λ n. by_tasks s h e (actor_at n)) at
      ∙ ap (λ w. by_tasks s h e (Worker w)) same
      ∙ ap (λ m. law.follow s (own (Worker old.worker) h) m (law.left_after s (Worker old.worker) (own (Worker old.worker) h)) e) (sym is)
      ∙ goes.follows (own (Worker old.worker) h) (omega (arith, short, own_short (Worker old.worker) h)) (stands.workers i old was)

  workers_stand : (x : Step) (h : History) → x.entry ≡ e → WorkerStands s new (x ∷ own (Worker old.worker) h) → WorkersStand s before.workers.items h
      → WorkersStand s (slice_set before.workers.items i new) (x ∷ h)
  workers_stand x h is_e stands rest j it at =
      let actor : x.entry.actor ≡ 2 + i = ap (λ (it : Entry). it.actor) is_e ∙ by in
      ⊎_elim
      (λ (same : i ≡ j).
      let here : it ≡ new = get_set_same before.workers.items i new it (ap (slice_get (slice_set before.workers.items i new)) same ∙ at) in
      let mine : own (Worker new.worker) (x ∷ h) ≡ x ∷ own (Worker old.worker) h =
      ap (λ w. own (Worker w) (x ∷ h)) number ∙ own_newest (Worker old.worker) x h (omega (arith, actor, is_number)) in
      subst (λ (w : WorkerTracker). WorkerStands s w (own (Worker w.worker) (x ∷ h))) (sym here) (subst (WorkerStands s new) (sym mine) stands))
      (λ (differ : i ≡ j → ⊥).
      let there : slice_get before.workers.items j ≡ Some it = sym (get_set_other before.workers.items i j new differ) ∙ at in
      let other : x.entry.actor ≡ actor_number (Worker it.worker) → ⊥ = λ same. differ (omega (arith, same, actor, (tracker.workers j it there).0)) in
      subst (WorkerStands s it) (sym (own_other (Worker it.worker) x h other)) (rest j it there))
      (cases_eq i j)

  pub joint_worker : (answer : Option Message) → WorkerGoes s old new brought e answer → Goes s before worker_after brought e answer
  joint_worker None goes = record {
    says = λ h short stands is. worker_follows None goes h short stands is;
    stands = tt;
    stays = record { audio = refl; control = refl; workers = ap (slice_set before.workers.items i) goes.stays ∙ set_same before.workers.items i old was };
  }
  joint_worker (Some about) goes =
      let left = worker_left s new.worker new.stage in
      let x : Step = step_of e about in record {
        says = λ h short stands is. says_as left (Some about) (law.follow_in s h e) (worker_follows (Some about) goes h short stands is);
        stands = λ h short stands is.
            subst (Stands s worker_after) (done_as s h e left about (worker_follows (Some about) goes h short stands is)) (record {
              audio = subst (AudioStands s before.audio) (sym (own_other Audio x h (λ same. absurd (omega (arith, same, by))))) stands.audio;
              control = subst (ControlStands s before.control) (sym (own_other Control x h (λ same. absurd (omega (arith, same, by))))) stands.control;
              workers = workers_stand x h refl
                  (goes.stands (own (Worker old.worker) h) (omega (arith, short, own_short (Worker old.worker) h)) (stands.workers i old was))
                  stands.workers;
            });
        stays = tt;
      }
