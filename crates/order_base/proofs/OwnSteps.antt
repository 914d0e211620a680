-- What an actor has left after its own steps, by what the last of them is about.
use Rattle.std.proofs.Common.{◌≡◌, List, ◌∷◌, Some, refl, sym, ap, ◌∙◌, ⊎_elim, is_some, eq-eqb, ne_eqb}
use Rattle.std.proofs.lemmas.Bool.{cond-true, cond-false, cases_Bool}
use Rattle.step_law.specs.declared.actor.Actor.{Actor}
use Rattle.step_law.specs.declared.entry.Entry.{Entry}
use Rattle.step_law.specs.declared.entry.Kind.TheVariants.{Take}
use Rattle.step_law.specs.Actor.{actor_number}
use Rattle.record_law.specs.declared.shape.Shape.{Shape}
use Rattle.record_law.specs.Entries.{is_by, is_kind}
use Rattle.record_law.specs.Message.{Message, Step, History}
use Rattle.record_law.specs.History.{own}
use Rattle.record_law.specs.Task.{Task}
use Rattle.record_law.specs.Protocol.{follow, left_in, about_in, left_after}
use Rattle.record_law.proofs.Turns.{none_left, follow_brings}
use Rattle.record_law.proofs.Together.{follow_same}

-- what an entry leaves is left after the step that it makes
pub goes_on : (s : Shape) (actor : Actor) (h : History) (e : Entry) (taken about : Message) (left : List Task)
    → follow s h taken (left_after s actor h) e ≡ Some (record { about = about; left = left })
    → left_after s actor (record { entry = e; about = about } ∷ h) ≡ left
goes_on s actor h e taken about left follows =
    let tasks : List Task = left_after s actor h in
    ⊎_elim
    (λ take.
    let brings : about ≡ taken = sym (ap about_in follows) ∙ follow_brings s h taken tasks e take (none_left s actor h) (ap is_some follows) in
    ap (λ m. left_in (follow s h m tasks e)) brings ∙ ap left_in follows)
    (λ other. ap left_in (follow_same e other s h about taken tasks) ∙ ap left_in follows)
    (cases_Bool (is_kind Take e))

-- ---- an actor's own steps

pub own_newest : (actor : Actor) (x : Step) (h : History) → x.entry.actor ≡ actor_number actor → own actor (x ∷ h) ≡ x ∷ own actor h
own_newest actor x h by = cond-true (is_by actor x.entry) (x ∷ own actor h) (own actor h) (eq-eqb x.entry.actor (actor_number actor) by)

pub own_other : (actor : Actor) (x : Step) (h : History) → (x.entry.actor ≡ actor_number actor → ⊥) → own actor (x ∷ h) ≡ own actor h
own_other actor x h other = cond-false (is_by actor x.entry) (x ∷ own actor h) (own actor h) (ne_eqb x.entry.actor (actor_number actor) other)
