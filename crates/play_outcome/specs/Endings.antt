-- What the calls gave that actions ask for.
use Rattle.std.specs.Prelude.{ℕ, nat_eq, Bool, false, ◌&&◌, if◌then◌else◌, List, [], ◌∷◌, Option, Some, None}
use Rattle.state_store.specs.declared.prop.Prop.{Prop}
use Rattle.step_law.specs.declared.entry.Kind.TheVariants.{Begin, End}
use Rattle.step_law.specs.Actor.{actor_at}
use Rattle.record_law.specs.Entries.{is_kind}
use Rattle.record_law.specs.Message.{Message}
use Rattle.record_law.specs.Message.Message.{nothing, save, restore}
use Rattle.session_play.specs.Looking.{doings, newer, if_so}
use Rattle.session_play.specs.Value.{Ending, worked, saved, restored, Play, given_in}

-- what the call is made for that an actor began last, in its own moments
abbrev pub made_for : {F B : Type 0} → Play F B → Message
made_for [] = nothing
made_for (x ∷ p) = let earlier = made_for p in if is_kind Begin x.step.entry then x.step.about else earlier

-- what the latest call gave that was made for such a message
abbrev pub given_for : {F B X : Type 0} → (Message → Bool) → (Ending F B → Option X) → Play F B → Option X
given_for is_for part [] = None
given_for is_for part (x ∷ p) =
    newer (if_so (is_kind End x.step.entry && is_for (made_for (doings (actor_at x.step.entry.actor) p))) (given_in part x.value)) (given_for is_for part p)

abbrev pub is_save_of : ℕ → Message → Bool
is_save_of action (save other inst) = nat_eq other action
is_save_of action message = false

abbrev pub is_restore_of : ℕ → Message → Bool
is_restore_of action (restore other inst) = nat_eq other action
is_restore_of action message = false

abbrev pub properties_saved : {F B : Type 0} → Ending F B → Option (List (ℕ × Prop))
properties_saved (saved status properties) = Some properties
properties_saved ending = None

abbrev pub status_restored : {F B : Type 0} → Ending F B → Option ℕ
status_restored (worked back status) = Some status
status_restored (restored front back status) = Some status
status_restored ending = None

-- the properties that an action saved, whatever status the call answered
abbrev pub saved_by : {F B : Type 0} → Play F B → ℕ → Option (List (ℕ × Prop))
saved_by p action = given_for (is_save_of action) properties_saved p

-- the status of an action's restore, on whatever way it was done
abbrev pub status_of : {F B : Type 0} → Play F B → ℕ → Option ℕ
status_of p action = given_for (is_restore_of action) status_restored p
