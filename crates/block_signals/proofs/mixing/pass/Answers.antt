use Rattle.std.proofs.Common.{[], ◌∷◌, arith}
use Rattle.block_signals.proofs.Mixes.{is_mixed}
use Rattle.block_signals.proofs.mixing.pass.Goals as goal

pub returns : goal.returns
returns c = is_mixed _ (c.args.signal.now ∷ []) c.loop-frame.out (omega arith) (λ k h. c.loop-frame.invariant k (omega arith))
