-- What a call does: its meaning, over the parts and what else is at hand.
use Rattle.std.specs.Prelude.{ℕ, List, [], length, Option}
use Rattle.std.specs.Option.{option_map_or}
use Rattle.interaction.specs.Interaction.{Interaction, done, ask}
use Rattle.plugin_decl.specs.declared.declaration.Decl.{Decl}
use Rattle.state_store.specs.declared.prop.Prop.{Prop}
use Rattle.step_law.specs.declared.call.Call.{Call}
use Rattle.step_law.specs.declared.call.Call.TheVariants as call
use Rattle.plug_api.specs.Inputs.{Outputs}
use Rattle.record_law.specs.Message.{Message}
use Rattle.record_law.specs.Message.Message.{restore}
use Rattle.session_play.specs.Setup.{decl_of}
use Rattle.session_play.specs.Hand.{Hand}
use Rattle.session_play.specs.Looking.{taken_body}
use Rattle.session_play.specs.Run.{Run, options_for, with_properties, state_for}
use Rattle.session_play.specs.Signals.{inputs_of}
use Rattle.session_play.specs.Value.{Ending, began, changed, ran, worked, saved, restored, idle}

-- a call that goes on as another, and ends otherwise
abbrev pub ending_by : {R S : Type 0} → (R → S) → Interaction R → Interaction S
ending_by end (done result) = done (end result)
ending_by end (ask body next) = ask body (λ answer. ending_by end (next answer))

-- a call on a part, if there is one
abbrev pub on_part : {F B X : Type 0} → (X → Interaction (Ending F B)) → Option X → Interaction (Ending F B)
on_part does part = option_map_or does part (done idle)

-- ---- calls of both parts

abbrev pub make_call : {F B : Type 0} → Run F B → ℕ → Hand F B → Interaction (Ending F B)
make_call run inst hand =
    on_part (λ (decl : Decl). done (began (run.codes.make decl run.setup.session.rate (options_for run.setup) hand.urids))) (decl_of run.setup inst)

-- the properties that a call restores
abbrev pub state_of : {F B : Type 0} → Run F B → Message → List (ℕ × Prop)
state_of run (restore action inst) = state_for run.setup action
state_of run message = []

abbrev pub restored_as : {F B : Type 0} → F × B × ℕ → Ending F B
restored_as it = restored it.0 it.1 it.2

abbrev pub restore_call : {F B : Type 0} → Run F B → Message → Hand F B → Interaction (Ending F B)
restore_call run about hand =
    on_part (λ front. on_part (λ back. done (restored_as (run.codes.restore front back (state_of run about)))) hand.back) hand.front

-- ---- calls of the front

abbrev pub ran_as : {F B : Type 0} → F × Outputs → Ending F B
ran_as it = ran it.0 it.1

abbrev pub run_call : {F B : Type 0} → Run F B → ℕ → Hand F B → Interaction (Ending F B)
run_call run inst hand =
    on_part (λ front. ending_by ran_as (run.fronts.run front (inputs_of run.setup (with_properties run.setup hand.urids) hand.own inst))) hand.front

abbrev pub front_call : {F B : Type 0} → (F → F) → Hand F B → Interaction (Ending F B)
front_call does hand = on_part (λ front. done (changed (does front))) hand.front

-- ---- calls of the back

abbrev pub worked_as : {F B : Type 0} → B × ℕ → Ending F B
worked_as it = worked it.0 it.1

abbrev pub back_call : {F B : Type 0} → (B → Interaction (B × ℕ)) → Hand F B → Interaction (Ending F B)
back_call does hand = on_part (λ back. ending_by worked_as (does back)) hand.back

abbrev pub saved_as : {F B : Type 0} → ℕ × List (ℕ × Prop) → Ending F B
saved_as it = saved it.0 it.1

abbrev pub save_call : {F B : Type 0} → Run F B → Hand F B → Interaction (Ending F B)
save_call run hand = on_part (λ back. done (saved_as (run.backs.save back (length (with_properties run.setup hand.urids))))) hand.back

-- ---- all calls

-- what a call on an instance does, made for a message: a response and a job have the body that their actor took last
abbrev pub call_of : {F B : Type 0} → Run F B → Call → Message → ℕ → Hand F B → Interaction (Ending F B)
call_of run call.Make about inst hand = make_call run inst hand
call_of run call.Activate about inst hand = front_call run.fronts.activate hand
call_of run call.Run about inst hand = run_call run inst hand
call_of run call.Response about inst hand = front_call (λ front. run.fronts.response front (taken_body hand.own)) hand
call_of run call.EndRun about inst hand = front_call run.fronts.end_run hand
call_of run call.Work about inst hand = back_call (λ back. run.backs.work back (taken_body hand.own)) hand
call_of run call.Save about inst hand = save_call run hand
call_of run call.RestoreSafe about inst hand = back_call (λ back. run.backs.restore_safe back (state_of run about)) hand
call_of run call.Restore about inst hand = restore_call run about hand
call_of run call.Deactivate about inst hand = front_call run.fronts.deactivate hand
call_of run call.Cleanup about inst hand = done idle
