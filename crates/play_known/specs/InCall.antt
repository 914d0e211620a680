-- What is known after a whole call.
use Rattle.std.specs.Prelude.{ℕ, ◌==◌, ◌&&◌, Bool, if◌then◌else◌, List, [], ◌∷◌, ◌++◌, map, filter, Option, Some, None, unwrap_or}
use Rattle.graph_order.specs.declared.setup.Setup.{Setup}
use Rattle.interaction.specs.Attempts.{Attempt}
use Rattle.step_law.specs.declared.actor.Actor.{Actor}
use Rattle.step_law.specs.declared.actor.Actor.TheVariants.{Audio}
use Rattle.step_law.specs.declared.call.Call.{Call}
use Rattle.step_law.specs.declared.call.Call.TheVariants as call
use Rattle.step_law.specs.Actor.{actor_number}
use Rattle.step_law.specs.Call.{call_number}
use Rattle.step_law.specs.Ring.{ring_number}
use Rattle.record_law.specs.History.{one_more}
use Rattle.record_law.specs.Message.{Step, History}
use Rattle.plug_api.specs.Inputs.{Outputs}
use Rattle.session_play.specs.Looking.{newer, if_so}
use Rattle.session_play.specs.Notices.{told_by}
use Rattle.session_play.specs.Value.{front_ended, back_ended, outputs_ended, urids_ended}
use Rattle.play_outcome.specs.Counts.{is_failure}
use Rattle.play_outcome.specs.Endings.{is_save_of, is_restore_of, properties_saved, status_restored}
use Rattle.block_signals.specs.Board.{Board, with_run}
use Rattle.play_known.specs.Calling.{WholeCall, steps_in}
use Rattle.play_known.specs.Known.{Known}

abbrev pub is_audio : Actor → Bool
is_audio actor = actor_number actor == actor_number Audio

abbrev pub is_call : Call → Call → Bool
is_call call other = call_number other == call_number call

-- steps put on a history, in order
abbrev pub then_steps : History → List Step → History
then_steps h [] = h
then_steps h (x ∷ later) = then_steps (x ∷ h) later

-- what it gave is known of its instance
abbrev pub known_on : {F B X : Type 0} → WholeCall F B → ℕ → Option X → Option X → Option X
known_on it inst gave before = newer (if_so (it.inst == inst) gave) before

-- the bodies of its attempts that were taken
abbrev pub is_taken : Attempt → Bool
is_taken attempt = attempt.answer == 0

abbrev pub sent_among : List Attempt → List (List ℕ)
sent_among told = map (λ attempt. attempt.body) (filter is_taken told)

-- the signals, with a run's outputs
abbrev pub board_with : ℕ → Option Outputs → Board → Board
board_with inst None board = board
board_with inst (Some outputs) board = with_run board inst outputs

-- the notices that a run has to tell
abbrev pub untold_by : {F B : Type 0} → Setup → WholeCall F B → List (List ℕ)
untold_by setup it = told_by setup it.inst (if is_call call.Run it.call then outputs_ended it.ending else None)

abbrev pub known_in_call : {F B : Type 0} → Setup → WholeCall F B → Known F B → Known F B
known_in_call setup it k = record {
  history = then_steps k.history (steps_in it);
  fronts = λ inst. known_on it inst (front_ended it.ending) (k.fronts inst);
  backs = λ inst. known_on it inst (back_ended it.ending) (k.backs inst);
  urids = unwrap_or (urids_ended it.ending) k.urids;
  waiting = λ ring. if it.ring == ring_number ring then k.waiting ring ++ sent_among it.told else k.waiting ring;
  taken = k.taken;
  made = λ actor. if actor_number it.actor == actor_number actor then it.about else k.made actor;
  board = if is_audio it.actor then board_with it.inst (outputs_ended it.ending) k.board else k.board;
  untold = if is_audio it.actor then untold_by setup it else k.untold;
  given = λ inst. known_on it inst (outputs_ended it.ending) (k.given inst);
  sound = k.sound;
  saved = λ action. newer (if_so (is_save_of action it.about) (properties_saved it.ending)) (k.saved action);
  statuses = λ action. newer (if_so (is_restore_of action it.about) (status_restored it.ending)) (k.statuses action);
  failures = λ inst. one_more (is_call call.Work it.call && (it.inst == inst) && is_failure it.ending) (k.failures inst);
  lines = k.lines;
}
