-- A delay is a block.
use Rattle.std.proofs.Common.{◌≡◌, Bool, true, false, cond, [], ◌∷◌, ◌++◌, ap, ◌∙◌}
use Rattle.session_play.specs.Looking.{is_block, in_block, before_block}
use Rattle.session_play.specs.Signals.{output_in}
use Rattle.session_play.specs.SignalLaws.{BeginNoBlock, DelayIsABlock}
use Rattle.session_play.specs.Value.{Moment, Play}
use Rattle.graph_order.specs.Ports.{port_at}
use Rattle.plug_api.specs.Signal.{nothing}
use Rattle.std.specs.Option.{option_map_or}

cond_is : {X : Type 0} → (b c : Bool) (x y : X) → b ≡ c → cond b x y ≡ cond c x y
cond_is b c x y e = ap (λ it. cond it x y) e

block_before : {F B : Type 0} → (now before : Play F B) (begins : Moment F B) → BeginNoBlock now → is_block begins ≡ true
    → before_block (now ++ begins ∷ before) ≡ before
block_before [] before begins none here = cond_is (is_block begins) true before (before_block before) here
block_before (x ∷ now) before begins none here =
    cond_is (is_block x) false (now ++ begins ∷ before) (before_block (now ++ begins ∷ before)) none.0 ∙ block_before now before begins none.1 here

pub delay_is_a_block : {F B : Type 0} → DelayIsABlock F B
delay_is_a_block setup cable now before begins none here =
    ap (λ p. option_map_or (output_in setup (in_block p) cable.source) (port_at setup.decls cable.source cable.output) nothing) (block_before now before begins none here)
