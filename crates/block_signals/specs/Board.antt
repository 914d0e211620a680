-- What is known of the signals at a moment: all that later runs of the block at hand, and delayed cables in the next one, are given.
use Rattle.std.specs.Prelude.{ℕ, ◌==◌, if◌then◌else◌, List, [], Option, Some, None}
use Rattle.lv_base.specs.declared.number.Fixed.{Fixed}
use Rattle.plugin_decl.specs.declared.declaration.Port.{Port}
use Rattle.session_script.specs.declared.session.Action.{Action}
use Rattle.atom_sequence.specs.Event.{Event}
use Rattle.plug_api.specs.Inputs.{Outputs}
use Rattle.graph_order.specs.declared.setup.Setup.{Setup}
use Rattle.session_play.specs.Looking.{in_block, before_block, outputs_of, newer}
use Rattle.session_play.specs.Signals.{set_at, value_taken, message_to, put_event, messages_taken}
use Rattle.session_play.specs.Value.{Play}

pub record Board : Type 0 where
  -- what the run of an instance gave in this block, if it ran, and what it gave in the block before
  pub now : ℕ → Option Outputs
  pub before : ℕ → Option Outputs
  -- the value that was taken last for a port of an instance
  pub values : ℕ → Port → Option Fixed
  -- the messages that were taken in this block for an instance, in order
  pub messages : ℕ → List Event

-- what is known after audio's own moments, where these URIs have numbers
abbrev pub board_of : {F B : Type 0} → Setup → List (List ℕ) → Play F B → Board
board_of setup urids own = record {
  now = λ inst. outputs_of inst (in_block own);
  before = λ inst. outputs_of inst (in_block (before_block own));
  values = λ inst port. value_taken setup own inst port;
  messages = λ inst. messages_taken setup urids (in_block own) inst;
}

-- ---- how it changes

-- before anything is played
abbrev pub blank : Board
blank = record { now = λ inst. None; before = λ inst. None; values = λ inst port. None; messages = λ inst. [] }

-- a block begins
abbrev pub block_begun : Board → Board
block_begun board = record board { now = λ inst. None; before = board.now; messages = λ inst. [] }

-- a run of an instance ended and gave this
abbrev pub with_run : Board → ℕ → Outputs → Board
with_run board inst outputs = record board { now = λ other. if inst == other then Some outputs else board.now other }

-- an action was taken: a value, or a message
abbrev pub with_action : List (List ℕ) → Board → Action → Board
with_action urids board action = record board {
  values = λ inst port. newer (set_at inst port action) (board.values inst port);
  messages = λ inst. put_event (message_to urids inst action) (board.messages inst);
}
