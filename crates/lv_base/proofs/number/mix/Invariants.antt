use Rattle.std.proofs.Common.{◌≡◌, ◌*◌, take, pos, neg_ℤ, ◌≤ℤ◌}
use Rattle.lv_base.specs.Number.{sum_of}
use Rattle.lv_base.proofs.number.mix.Given as goal

-- the sum so far, and how far from 0 it can be: 2^31 a part
abbrev pub invariant-loop-part : goal.invariant-loop-part
invariant-loop-part l =
    (l.sum ≡ sum_of (take l.part-index l.parts)) × (neg_ℤ (pos (2147483648 * l.part-index)) ≤ℤ l.sum) × (l.sum ≤ℤ pos (2147483648 * l.part-index))
