-- While control acts, one entry of its own may come next.
use Rattle.std.proofs.Common.{◌≡◌, ◌⊎◌, ℕ, ◌+◌, nat_le, Bool, true, false, ◌&&◌, if◌then◌else◌, List, [], ◌∷◌, Option, is_some, refl, sym, ap, subst, ◌∙◌, inl, inr, ⊎_elim, true≢false, eqb-true}
use Rattle.std.proofs.lemmas.Bool.{and_parts}
use Rattle.step_law.specs.declared.actor.Actor.TheVariants.{Control}
use Rattle.step_law.specs.declared.call.Call.TheVariants.{Restore}
use Rattle.step_law.specs.declared.entry.Entry.{Entry}
use Rattle.step_law.specs.declared.ring.Ring.TheVariants.{ControlToAudio, AudioToControl, ControlToWorker, WorkerToControl}
use Rattle.step_law.specs.Entry.{take_of, send_of, begin_of, beat_of}
use Rattle.record_law.specs.declared.shape.Shape.{Shape}
use Rattle.record_law.specs.Entries.{same_entry}
use Rattle.record_law.specs.Message.{Message, History}
use Rattle.record_law.specs.History.{own}
use Rattle.record_law.specs.Control.{has_reached, act, sees, stages_after}
use Rattle.record_law.specs.Protocol.{Follows, follow, then_left}
use Rattle.record_law.specs.Task.{Due, Task, Move, only_if}
use Rattle.record_law.specs.Task.Stage.{due, tell, ask, hear, front, restoring}
use Rattle.record_law.specs.Task.Task.{acting}
use Rattle.record_law.specs.Task.Move.{goes}
use Rattle.record_law.proofs.Same.{same_means}
use Rattle.session_play.specs.Looking.{steps_of}
use Rattle.session_play.specs.Run.{Run}
use Rattle.session_play.specs.SessionShape.{shape_of}
use Rattle.session_play.specs.Value.{Play}
use Rattle.one_thread.specs.Offers.{progress_now}
use Rattle.one_thread.specs.Turns.{may_come}
use Rattle.one_thread.specs.OneThread.{comes_next}
use Rattle.one_record.specs.Laws.{ActsAreOne}
use Rattle.one_record.proofs.Next.{sees_so, takes_are_first, sends_are_first}

abbrev Went : Move → List Task → Option Follows → Type 0
Went it rest o = is_some (then_left it rest o) ≡ true

only : (c : Bool) (m : Message) (t rest : List Task) (o : Option Follows) → Went (only_if c m t) rest o → c ≡ true
only true m t rest o e = refl
only false m t rest o e = absurd (true≢false (sym e))

either : (c : Bool) (m : Message) (t : List Task) (it : Move) (rest : List Task) (o : Option Follows) → Went (if c then goes m t else it) rest o
    → (c ≡ true) ⊎ Went it rest o
either true m t it rest o e = inl refl
either false m t it rest o e = inr e

-- what comes next for these stages, where audio is so far
abbrev chosen : History → ℕ → List Due → Entry
chosen h n [] = beat_of n
chosen h n ((k, due block) ∷ later) = let rest = chosen h n later in if has_reached block h then rest else beat_of n
chosen h n ((k, tell message) ∷ later) = send_of Control ControlToAudio
chosen h n ((k, ask worker message) ∷ later) = send_of Control (ControlToWorker worker)
chosen h n ((k, hear worker) ∷ later) = take_of Control (WorkerToControl worker)
chosen h n ((k, front inst) ∷ later) = beat_of n
chosen h n ((k, restoring action inst) ∷ later) = begin_of Control Restore inst

-- it is that, or the end is seen in place of a send
abbrev Fate : Shape → Entry → Entry → Type 0
Fate s it e = (e ≡ it) ⊎ ((it ≡ send_of Control ControlToAudio) × (e ≡ beat_of (s.blocks + 1)))

abbrev Sees : ℕ → Entry → Type 0
Sees n e = (k : ℕ) → e ≡ beat_of k → k ≡ n

as_beat : (n k : ℕ) (e : Entry) → Sees n e → e ≡ beat_of k → e ≡ beat_of n
as_beat n k e see same = same ∙ ap beat_of (see k same)

ended : (n k : ℕ) (e : Entry) (m : Message) (t rest : List Task) (o : Option Follows) → Sees n e → Went (only_if (same_entry (beat_of k) e) m t) rest o → e ≡ beat_of n
ended n k e m t rest o see went = as_beat n k e see (same_means (beat_of k) e (only (same_entry (beat_of k) e) m t rest o went))

seen : (s : Shape) (n k block : ℕ) (later : List Due) (e : Entry) (rest : List Task) (o : Option Follows) → Sees n e → Went (sees s k block later e) rest o → e ≡ beat_of n
seen s n k block later e rest o see went =
    let here = same_entry (beat_of e.a) e in
    ⊎_elim
    (λ c. as_beat n e.a e see (same_means (beat_of e.a) e (and_parts here (nat_le block e.a) (and_parts (here && nat_le block e.a) (nat_le e.a s.blocks) c).0).0))
    (λ w. ended n (s.blocks + 1) e _ _ rest o see w)
    (either (here && nat_le block e.a && nat_le e.a s.blocks) _ _ _ rest o went)

at_due : (c : Bool) (s : Shape) (n : ℕ) (it e : Entry) (first second : Move) (rest : List Task) (o : Option Follows)
    → (Went first rest o → Fate s it e) → (Went second rest o → e ≡ beat_of n) → Went (if c then first else second) rest o
    → Fate s (if c then it else beat_of n) e
at_due true s n it e first second rest o one two went = one went
at_due false s n it e first second rest o one two went = inl (two went)

acts : (s : Shape) (h : History) (n : ℕ) (taken : Message) (stages : List Due) (e : Entry) (rest : List Task) (o : Option Follows) → Sees n e
    → Went (act s h taken stages e) rest o → Fate s (chosen h n stages) e
acts s h n taken [] e rest o see went = inl (ended n (s.blocks + 1) e _ _ rest o see went)
acts s h n taken ((k, due block) ∷ later) e rest o see went =
    at_due (has_reached block h) s n (chosen h n later) e (act s h taken later e) (sees s k block later e) rest o
    (acts s h n taken later e rest o see) (seen s n k block later e rest o see) went
acts s h n taken ((k, tell message) ∷ later) e rest o see went =
    ⊎_elim
    (λ c. inl (same_means (send_of Control ControlToAudio) e c))
    (λ w. inr (refl, same_means (beat_of (s.blocks + 1)) e (only (same_entry (beat_of (s.blocks + 1)) e) _ _ rest o w)))
    (either (same_entry (send_of Control ControlToAudio) e) _ _ _ rest o went)
acts s h n taken ((k, ask worker message) ∷ later) e rest o see went = inl (same_means _ e (only _ _ _ rest o went))
acts s h n taken ((k, hear worker) ∷ later) e rest o see went = inl (same_means _ e (only _ _ _ rest o went))
acts s h n taken ((k, front inst) ∷ later) e rest o see went = inl (ended n (s.blocks + 1) e _ _ rest o see went)
acts s h n taken ((k, restoring action inst) ∷ later) e rest o see went = inl (same_means _ e (only _ _ _ rest o went))

sees_now : {F B : Type 0} → (run : Run F B) (p : Play F B) (e : Entry) → comes_next run p e ≡ true → Sees (progress_now (shape_of run.setup) (steps_of p)) e
sees_now run p e come k same =
    eqb-true k (progress_now (shape_of run.setup) (steps_of p)) (sees_so run p (beat_of k) (subst (λ it. comes_next run p it ≡ true) same come))

not_both : {F B : Type 0} → (run : Run F B) (p : Play F B) (it e f : Entry) → may_come run p e ≡ true → comes_next run p f ≡ true
    → e ≡ it → it ≡ send_of Control ControlToAudio → f ≡ beat_of ((shape_of run.setup).blocks + 1) → ⊥
not_both run p it e f may come same send end =
    sends_are_first run p (subst (λ x. may_come run p x ≡ true) (same ∙ send) may) (subst (λ x. comes_next run p x ≡ true) end come)

meet : {F B : Type 0} → (run : Run F B) (p : Play F B) (it e f : Entry) → may_come run p e ≡ true → may_come run p f ≡ true
    → comes_next run p e ≡ true → comes_next run p f ≡ true → Fate (shape_of run.setup) it e → Fate (shape_of run.setup) it f → e ≡ f
meet run p it e f may also come other (inl a) (inl b) = a ∙ sym b
meet run p it e f may also come other (inl a) (inr b) = absurd (not_both run p it e f may other a b.0 b.1)
meet run p it e f may also come other (inr a) (inl b) = absurd (not_both run p it f e also come b a.0 a.1)
meet run p it e f may also come other (inr a) (inr b) = a.1 ∙ sym b.1

abbrev first_take : Entry
first_take = take_of Control AudioToControl

pub acts_are_one : {F B : Type 0} → ActsAreOne F B
acts_are_one run p taken also stages rest e f went gone may can come other control too = by (split taken e went) (split also f gone)
  where
    split : (m : Message) (x : Entry) → is_some (follow (shape_of run.setup) (own Control (steps_of p)) m (acting stages ∷ rest) x) ≡ true
        → (same_entry first_take x ≡ true) ⊎ Went (act (shape_of run.setup) (own Control (steps_of p)) m stages x) rest (follow (shape_of run.setup) (own Control (steps_of p)) m rest x)
    split m x w = either (same_entry first_take x) m (acting (stages_after m stages) ∷ []) (act (shape_of run.setup) (own Control (steps_of p)) m stages x) rest (follow (shape_of run.setup) (own Control (steps_of p)) m rest x) w

    by : (same_entry first_take e ≡ true) ⊎ Went (act (shape_of run.setup) (own Control (steps_of p)) taken stages e) rest (follow (shape_of run.setup) (own Control (steps_of p)) taken rest e)
        → (same_entry first_take f ≡ true) ⊎ Went (act (shape_of run.setup) (own Control (steps_of p)) also stages f) rest (follow (shape_of run.setup) (own Control (steps_of p)) also rest f) → e ≡ f
    by (inl a) g =
        let same = same_means first_take e a in
        same ∙ sym (takes_are_first run p f (subst (λ x. may_come run p x ≡ true) same may) other too)
    by (inr w) (inl b) =
        let same = same_means first_take f b in
        takes_are_first run p e (subst (λ x. may_come run p x ≡ true) same can) come control ∙ sym same
    by (inr w) (inr v) =
        let h = own Control (steps_of p) in
        let n = progress_now (shape_of run.setup) (steps_of p) in
        meet run p (chosen h n stages) e f may can come other
        (acts (shape_of run.setup) h n taken stages e rest _ (sees_now run p e come) w)
        (acts (shape_of run.setup) h n also stages f rest _ (sees_now run p f other) v)
