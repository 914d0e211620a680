-- The notices of a run: the patch messages that an instance answers on its reply port.
use Rattle.std.specs.Prelude.{ℕ, Bool, true, false, if◌then◌else◌, List, [], ◌∷◌, drop, take, map, filter, Option, Some, None}
use Rattle.step_law.specs.declared.call.Call.TheVariants.{Run}
use Rattle.step_law.specs.declared.actor.Actor.TheVariants.{Audio}
use Rattle.step_law.specs.Entry.{end_of}
use Rattle.atom_core.specs.Value.{Value, plain, other}
use Rattle.atom_core.specs.Spelling.{atom_of}
use Rattle.atom_sequence.specs.Event.{Event}
use Rattle.plug_api.specs.Signal.{events, events_in}
use Rattle.plug_api.specs.Inputs.{Outputs, signal_after}
use Rattle.record_law.specs.Message.{Message}
use Rattle.record_law.specs.Message.Message.{notice}
use Rattle.record_law.specs.Entries.{same_entry}
use Rattle.session_play.specs.EventBytes.{events_at}
use Rattle.session_play.specs.Patch.{is_message}
use Rattle.graph_order.specs.declared.setup.Setup.{Setup}
use Rattle.session_play.specs.Setup.{reply_port}
use Rattle.session_play.specs.Value.{Play, outputs_ended, given_in}

-- an event is a message
abbrev pub is_answer : Value → Bool
is_answer (plain (other kind body)) = is_message kind body
is_answer value = false

-- the answers at a port: the bytes of each atom, without what fills it up
abbrev pub answers_at : Option ℕ → Outputs → List (List ℕ)
answers_at None outputs = []
answers_at (Some port) outputs =
    map (λ (it : Event). atom_of it.value) (filter (λ (it : Event). is_answer it.value) (events_at (events_in (signal_after (events []) outputs port))))

-- a run tells the first 16
abbrev pub told_by : Setup → ℕ → Option Outputs → List (List ℕ)
told_by setup inst None = []
told_by setup inst (Some outputs) = take 16 (answers_at (reply_port setup inst) outputs)

abbrev pub is_notice : Message → Bool
is_notice (notice inst) = true
is_notice message = false

-- the notices that audio has still to tell: those of a run once it has ended, less one for each that it told
abbrev pub untold : {F B : Type 0} → Setup → Play F B → List (List ℕ)
untold setup [] = []
untold setup (x ∷ p) =
    let left = untold setup p in
    if is_notice x.step.about then drop 1 left
    else told_by setup x.step.entry.b (if same_entry (end_of Audio Run x.step.entry.b) x.step.entry then given_in outputs_ended x.value else None)
