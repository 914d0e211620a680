-- What is known says what a run is given, and each moment changes it in one way.
use Rattle.std.specs.Prelude.{◌≡◌, ℕ, true, false, List, [], ◌∷◌, Some, None}
use Rattle.session_script.specs.declared.session.Action.{Action}
use Rattle.plug_api.specs.Inputs.{Outputs}
use Rattle.graph_order.specs.declared.setup.Setup.{Setup}
use Rattle.session_play.specs.Looking.{is_block, ends_on}
use Rattle.session_play.specs.Signals.{action_taken, inputs_of}
use Rattle.session_play.specs.Value.{Moment, Play, gave, ran, given_in, outputs_ended}
use Rattle.block_signals.specs.Board.{board_of, blank, block_begun, with_run, with_action}
use Rattle.block_signals.specs.Given.{inputs_from}

-- what a run is given by audio's own moments is what it is given by what is known after them
abbrev pub BoardGivesInputs : Type 0 → Type 0 → Type 0
BoardGivesInputs F B = (setup : Setup) (urids : List (List ℕ)) (own : Play F B) (inst : ℕ)
    → inputs_of setup urids own inst ≡ inputs_from setup (board_of setup urids own) inst

-- at first nothing is known
abbrev pub BoardBeginsBlank : Type 0 → Type 0 → Type 0
BoardBeginsBlank F B = (setup : Setup) (urids : List (List ℕ)) → (let none : Play F B = [] in board_of setup urids none) ≡ blank

-- a block begins
abbrev pub BlockBegins : Type 0 → Type 0 → Type 0
BlockBegins F B = (setup : Setup) (urids : List (List ℕ)) (x : Moment F B) (own : Play F B) → is_block x ≡ true
    → board_of setup urids (x ∷ own) ≡ block_begun (board_of setup urids own)

-- a run of an instance ends
abbrev pub RunEnds : Type 0 → Type 0 → Type 0
RunEnds F B = (setup : Setup) (urids : List (List ℕ)) (x : Moment F B) (own : Play F B) (inst : ℕ) (front : F) (outputs : Outputs)
    → ends_on inst x.step.entry ≡ true → x.value ≡ gave (ran front outputs)
    → board_of setup urids (x ∷ own) ≡ with_run (board_of setup urids own) inst outputs

-- an action is taken
abbrev pub ActionIsTaken : Type 0 → Type 0 → Type 0
ActionIsTaken F B = (setup : Setup) (urids : List (List ℕ)) (x : Moment F B) (own : Play F B) (action : Action)
    → action_taken setup x ≡ Some action → board_of setup urids (x ∷ own) ≡ with_action urids (board_of setup urids own) action

-- no other moment changes anything
abbrev pub NothingElseCounts : Type 0 → Type 0 → Type 0
NothingElseCounts F B = (setup : Setup) (urids : List (List ℕ)) (x : Moment F B) (own : Play F B) → is_block x ≡ false
    → given_in outputs_ended x.value ≡ None → action_taken setup x ≡ None → board_of setup urids (x ∷ own) ≡ board_of setup urids own
