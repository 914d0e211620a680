-- What is known after a play: all that its next entries and its outcome depend on, and how an entry changes it.
use Rattle.std.specs.Prelude.{ℕ, ◌==◌, ◌&&◌, Bool, if◌then◌else◌, List, [], ◌∷◌, ◌++◌, drop, Option, None, unwrap_or, option_and_then}
use Rattle.graph_order.specs.declared.setup.Setup.{Setup}
use Rattle.state_store.specs.declared.prop.Prop.{Prop}
use Rattle.step_law.specs.declared.actor.Actor.{Actor}
use Rattle.step_law.specs.declared.actor.Actor.TheVariants.{Audio}
use Rattle.step_law.specs.declared.call.Call.TheVariants.{Run as RunCall, Work}
use Rattle.step_law.specs.declared.entry.Kind.TheVariants.{Take, Send, Done, Begin, End}
use Rattle.step_law.specs.declared.ring.Ring.{Ring}
use Rattle.step_law.specs.Actor.{actor_at}
use Rattle.step_law.specs.Call.{call_number}
use Rattle.step_law.specs.Entry.{end_of}
use Rattle.record_law.specs.Entries.{is_by, is_kind, is_on, same_entry}
use Rattle.record_law.specs.History.{count, one_more}
use Rattle.record_law.specs.Message.{Message, History}
use Rattle.plug_api.specs.Inputs.{Outputs}
use Rattle.session_play.specs.Looking.{steps_of, doings, is_block, ends_on, newer, if_so, front_of, back_of, outputs_of, urids_of, bodies_on, taken_body}
use Rattle.session_play.specs.Notices.{is_notice, told_by, untold}
use Rattle.session_play.specs.Run.{Run}
use Rattle.session_play.specs.Signals.{set_at, message_to, put_event, action_taken}
use Rattle.session_play.specs.Value.{Moment, Play, given_in, front_ended, back_ended, outputs_ended, urids_ended, body_in}
use Rattle.play_outcome.specs.Counts.{failures, has_failed}
use Rattle.play_outcome.specs.Endings.{made_for, saved_by, status_of, is_save_of, is_restore_of, properties_saved, status_restored}
use Rattle.play_outcome.specs.Pcm.{sound_of}
use Rattle.play_outcome.specs.Summary.{notice_lines, taken_line}
use Rattle.block_signals.specs.Board.{Board, board_of}
use Rattle.block_signals.specs.Channels.{block_given}

pub record Known (F B : Type 0) : Type 0 where
  pub history : History
  -- the parts of the instances
  pub fronts : ℕ → Option F
  pub backs : ℕ → Option B
  -- the URIs that have numbers
  pub urids : List (List ℕ)
  -- the bodies that were sent on a ring and not taken, in order
  pub waiting : Ring → List (List ℕ)
  -- the body that an actor took last, and what it began its last call for
  pub taken : Actor → List ℕ
  pub made : Actor → Message
  -- the signals of the block at hand
  pub board : Board
  -- the notices that audio has still to tell
  pub untold : List (List ℕ)
  -- what the latest run of an instance gave
  pub given : ℕ → Option Outputs
  pub sound : List ℕ
  -- what an action saved, and the status of its restore
  pub saved : ℕ → Option (List (ℕ × Prop))
  pub statuses : ℕ → Option ℕ
  -- the works of an instance that failed
  pub failures : ℕ → ℕ
  -- the summary's lines on notices
  pub lines : List ℕ

-- the bodies that wait on a ring: each take takes the oldest
abbrev pub waiting_on : {F B : Type 0} → Ring → Play F B → List (List ℕ)
waiting_on ring p = drop (count Take ring (steps_of p)) (bodies_on ring p)

-- what is known after a play, where these URIs have numbers for messages and notices
abbrev pub known_of : {F B : Type 0} → Run F B → List (List ℕ) → Play F B → Known F B
known_of run names p = record {
  history = steps_of p;
  fronts = λ inst. front_of inst p;
  backs = λ inst. back_of inst p;
  urids = urids_of run.held p;
  waiting = λ ring. waiting_on ring p;
  taken = λ actor. taken_body (doings actor p);
  made = λ actor. made_for (doings actor p);
  board = board_of run.setup names (doings Audio p);
  untold = untold run.setup (doings Audio p);
  given = λ inst. outputs_of inst p;
  sound = sound_of run.setup p;
  saved = λ action. saved_by p action;
  statuses = λ action. status_of p action;
  failures = λ inst. failures inst p;
  lines = notice_lines run.setup names p;
}

-- ---- how an entry of an actor changes it

-- what a call that ends gave, to those of its instance
abbrev pub ended_on : {F B X : Type 0} → Moment F B → ℕ → Option X → Option X → Option X
ended_on x inst gave before = newer (if_so (ends_on inst x.step.entry) gave) before

-- the bodies on a ring
abbrev pub waiting_after : {F B : Type 0} → Moment F B → Ring → List (List ℕ) → List (List ℕ)
waiting_after x ring before =
    if is_on Send ring x.step.entry then before ++ body_in x.value ∷ []
    else if is_on Take ring x.step.entry then drop 1 before else before

-- the signals, by an entry of audio
abbrev pub board_after : {F B : Type 0} → Setup → List (List ℕ) → Moment F B → Board → Board
board_after setup names x board = record {
  now = λ inst. if is_block x then None else ended_on x inst (given_in outputs_ended x.value) (board.now inst);
  before = λ inst. if is_block x then board.now inst else board.before inst;
  values = λ inst port. newer (option_and_then (set_at inst port) (action_taken setup x)) (board.values inst port);
  messages = λ inst. if is_block x then [] else put_event (option_and_then (message_to names inst) (action_taken setup x)) (board.messages inst);
}

-- the notices to tell: of each run the first 16, less those that were told
abbrev pub untold_after : {F B : Type 0} → Setup → Moment F B → List (List ℕ) → List (List ℕ)
untold_after setup x before =
    if is_notice x.step.about then drop 1 before
    else told_by setup x.step.entry.b (if same_entry (end_of Audio RunCall x.step.entry.b) x.step.entry then given_in outputs_ended x.value else None)

-- what a call gave that was made for a message, if this is its end
abbrev pub given_after : {F B X : Type 0} → (Message → Bool) → Option X → Known F B → Moment F B → Option X → Option X
given_after is_for gave k x before = newer (if_so (is_kind End x.step.entry && is_for (k.made (actor_at x.step.entry.actor))) gave) before

abbrev pub failures_after : {F B : Type 0} → Moment F B → ℕ → ℕ → ℕ
failures_after x inst before =
    one_more (is_kind End x.step.entry && (x.step.entry.a == call_number Work) && (x.step.entry.b == inst) && has_failed x.value) before

-- all that is known then
abbrev pub known_after : {F B : Type 0} → Setup → List (List ℕ) → Moment F B → Known F B → Known F B
known_after setup names x k = record {
  history = x.step ∷ k.history;
  fronts = λ inst. ended_on x inst (given_in front_ended x.value) (k.fronts inst);
  backs = λ inst. ended_on x inst (given_in back_ended x.value) (k.backs inst);
  urids = unwrap_or (given_in urids_ended x.value) k.urids;
  waiting = λ ring. waiting_after x ring (k.waiting ring);
  taken = λ actor. if is_by actor x.step.entry && is_kind Take x.step.entry then body_in x.value else k.taken actor;
  made = λ actor. if is_by actor x.step.entry && is_kind Begin x.step.entry then x.step.about else k.made actor;
  board = if is_by Audio x.step.entry then board_after setup names x k.board else k.board;
  untold = if is_by Audio x.step.entry then untold_after setup x k.untold else k.untold;
  given = λ inst. ended_on x inst (given_in outputs_ended x.value) (k.given inst);
  sound = if is_kind Done x.step.entry then k.sound ++ block_given setup k.board else k.sound;
  saved = λ action. given_after (is_save_of action) (given_in properties_saved x.value) k x (k.saved action);
  statuses = λ action. given_after (is_restore_of action) (given_in status_restored x.value) k x (k.statuses action);
  failures = λ inst. failures_after x inst (k.failures inst);
  lines = k.lines ++ taken_line setup names x;
}
