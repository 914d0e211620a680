use Rattle.std.proofs.Common.{◌≡◌, ◌*◌, ◌^◌}
use Rattle.lv_base.specs.Leading.{capped}
use Rattle.lv_base.proofs.decimal.with_zeros.Given as goal

-- the number with the zeros so far, up to the cap
abbrev pub invariant-loop : goal.invariant-loop
invariant-loop l = l.number ≡ capped (l.start * 10 ^ l.counter)
