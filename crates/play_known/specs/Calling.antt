-- A whole call on an instance: what it does by what is known, its entries, and the attempts that have one.
use Rattle.std.specs.Prelude.{◌≡◌, ℕ, nat_lt, ◌==◌, Bool, true, not, ◌&&◌, ◌||◌, if◌then◌else◌, All, List, [], ◌∷◌, ◌++◌, map, take, drop, length}
use Rattle.interaction.specs.Attempts.{Attempt, Plays}
use Rattle.interaction.specs.Interaction.{Interaction, done}
use Rattle.plugin_decl.specs.declared.declaration.Decl.{Decl}
use Rattle.step_law.specs.declared.actor.Actor.{Actor}
use Rattle.step_law.specs.declared.actor.Actor.TheVariants.{Audio}
use Rattle.step_law.specs.declared.call.Call.{Call}
use Rattle.step_law.specs.declared.call.Call.TheVariants as call
use Rattle.step_law.specs.declared.entry.Entry.{Entry}
use Rattle.step_law.specs.Actor.{actor_number, actor_at}
use Rattle.step_law.specs.Entry.{begin_of, end_of}
use Rattle.record_law.specs.declared.shape.Shape.{Shape}
use Rattle.record_law.specs.Message.{Message, Step, History}
use Rattle.record_law.specs.Message.Message.{nothing, body}
use Rattle.record_law.specs.Protocol.{follow_in, about_in}
use Rattle.session_play.specs.Calls.{ending_by, on_part, ran_as, worked_as, saved_as, restored_as, state_of}
use Rattle.session_play.specs.Run.{Run, options_for, with_properties}
use Rattle.session_play.specs.SessionShape.{works}
use Rattle.session_play.specs.Setup.{decl_of}
use Rattle.session_play.specs.Value.{Ending, began, changed, idle}
use Rattle.worker_ring.specs.Answering.{kind_by}
use Rattle.worker_ring.specs.Attempting.{on_ring}
use Rattle.block_signals.specs.Given.{inputs_from}
use Rattle.play_known.specs.Known.{Known}

-- ---- what it does

-- a call of a front that gives the front alone, and one of a back that works
abbrev pub front_does : {F B : Type 0} → (F → F) → Known F B → ℕ → Interaction (Ending F B)
front_does does k inst = on_part (λ front. done (changed (does front))) (k.fronts inst)

abbrev pub back_does : {F B : Type 0} → (B → Interaction (B × ℕ)) → Known F B → ℕ → Interaction (Ending F B)
back_does does k inst = on_part (λ back. ending_by worked_as (does back)) (k.backs inst)

-- a call of an actor on an instance, made for a message, by what is known: a run has the signals of the block at hand, a response and a job the
-- body that the actor took last
abbrev pub call_known : {F B : Type 0} → Run F B → Known F B → Actor → Call → Message → ℕ → Interaction (Ending F B)
call_known run k actor call.Make about inst =
    on_part (λ (decl : Decl). done (began (run.codes.make decl run.setup.session.rate (options_for run.setup) k.urids))) (decl_of run.setup inst)
call_known run k actor call.Activate about inst = front_does run.fronts.activate k inst
call_known run k actor call.Run about inst =
    on_part (λ front. ending_by ran_as (run.fronts.run front (inputs_from run.setup k.board inst))) (k.fronts inst)
call_known run k actor call.Response about inst = front_does (λ front. run.fronts.response front (k.taken actor)) k inst
call_known run k actor call.EndRun about inst = front_does run.fronts.end_run k inst
call_known run k actor call.Work about inst = back_does (λ back. run.backs.work back (k.taken actor)) k inst
call_known run k actor call.Save about inst =
    on_part (λ back. done (saved_as (run.backs.save back (length (with_properties run.setup k.urids))))) (k.backs inst)
call_known run k actor call.RestoreSafe about inst = back_does (λ back. run.backs.restore_safe back (state_of run about)) k inst
call_known run k actor call.Restore about inst =
    on_part (λ front. on_part (λ back. done (restored_as (run.codes.restore front back (state_of run about)))) (k.backs inst)) (k.fronts inst)
call_known run k actor call.Deactivate about inst = front_does run.fronts.deactivate k inst
call_known run k actor call.Cleanup about inst = done idle

-- ---- its entries

pub record WholeCall (F B : Type 0) : Type 0 where
  pub actor : Actor
  pub call : Call
  pub inst : ℕ
  -- what it is made for
  pub about : Message
  -- the number of the ring that its attempts are on, and those of them that have an entry
  pub ring : ℕ
  pub told : List Attempt
  pub ending : Ending F B

-- it begins, an attempt is made, it has ended
abbrev pub begin_step : {F B : Type 0} → WholeCall F B → Step
begin_step it = record { entry = begin_of it.actor it.call it.inst; about = it.about }

abbrev pub try_step : {F B : Type 0} → WholeCall F B → Attempt → Step
try_step it attempt = record { entry = on_ring (actor_number it.actor) it.ring (kind_by attempt.answer attempt.body); about = body }

abbrev pub end_step : {F B : Type 0} → WholeCall F B → Step
end_step it = record { entry = end_of it.actor it.call it.inst; about = nothing }

-- all of it, in order
abbrev pub steps_in : {F B : Type 0} → WholeCall F B → List Step
steps_in it = begin_step it ∷ map (try_step it) it.told ++ end_step it ∷ []

abbrev pub entries_in : {F B : Type 0} → WholeCall F B → List Entry
entries_in it = map (λ (x : Step). x.entry) (steps_in it)

-- the order of work makes these steps of their entries, one after the other
abbrev pub AreTold : Shape → History → List Step → Type 0
AreTold s h [] = Unit {0}
AreTold s h (x ∷ later) = (about_in (follow_in s h x.entry) ≡ x.about) × AreTold s (x ∷ h) later

-- ---- a call that may be made

-- an attempt is answered 0 where its body was taken, which then is short enough, and else 2, no space (LV2 worker, LV2_Worker_Status)
abbrev pub is_answered : Attempt → Bool
is_answered attempt = (attempt.answer == 0) && not (nat_lt 256 (length attempt.body)) || (attempt.answer == 2)

-- so many attempts may have an entry: none where the instance declares no worker
abbrev pub most_told : {F B : Type 0} → Run F B → ℕ → ℕ
most_told run inst = if works run.setup inst then 16 else 0

-- It makes some attempts, and with their answers it gives what it gives. The first have entries, and all later ones are answered 1.
pub record IsCall {F B : Type 0} (run : Run F B) (names : List (List ℕ)) (k : Known F B) (it : WholeCall F B) : Type 0 where
  pub actor : actor_at (actor_number it.actor) ≡ it.actor
  pub attempts : List Attempt
  pub plays : Plays (call_known run k it.actor it.call it.about it.inst) attempts it.ending
  pub told : it.told ≡ take (most_told run it.inst) attempts
  pub answered : All (λ attempt. is_answered attempt ≡ true) it.told
  pub refused : All (λ (attempt : Attempt). attempt.answer ≡ 1) (drop (most_told run it.inst) attempts)
  -- audio told all notices, and a run is audio's, made once the properties that actions name have their numbers
  pub silent : it.actor ≡ Audio → k.untold ≡ []
  pub run_by : it.call ≡ call.Run → (it.actor ≡ Audio) × (names ≡ with_properties run.setup k.urids)
