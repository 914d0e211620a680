-- What holds of all signals.
use Rattle.std.specs.Prelude.{◌≡◌, true, false, [], ◌∷◌, ◌++◌}
use Rattle.session_script.specs.declared.session.CableLine.{CableLine}
use Rattle.session_play.specs.Looking.{is_block}
use Rattle.graph_order.specs.declared.setup.Setup.{Setup}
use Rattle.session_play.specs.Signals.{cable_signal}
use Rattle.session_play.specs.Value.{Moment, Play}

-- the same cable, with a delay or without
abbrev pub with_delay : CableLine → CableLine
with_delay cable = record cable { delayed = true }

abbrev pub without_delay : CableLine → CableLine
without_delay cable = record cable { delayed = false }

-- no block begins in these moments
abbrev pub BeginNoBlock : {F B : Type 0} → Play F B → Type 0
BeginNoBlock [] = Unit {0}
BeginNoBlock (x ∷ p) = (is_block x ≡ false) × BeginNoBlock p

-- in a block comes over a cable with a delay what came without one before the block began
abbrev pub DelayIsABlock : Type 0 → Type 0 → Type 0
DelayIsABlock F B = (setup : Setup) (cable : CableLine) (now before : Play F B) (begins : Moment F B) → BeginNoBlock now → is_block begins ≡ true
    → cable_signal setup (now ++ begins ∷ before) (with_delay cable) ≡ cable_signal setup before (without_delay cable)
