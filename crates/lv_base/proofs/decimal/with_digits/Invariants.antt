use Rattle.std.proofs.Common.{◌≡◌, take, fold}
use Rattle.lv_base.specs.Decimal.{with_digit}
use Rattle.lv_base.specs.Leading.{capped}
use Rattle.lv_base.proofs.decimal.with_digits.Given as goal

-- what the digits so far spell, up to the cap
abbrev pub invariant-loop-digit : goal.invariant-loop-digit
invariant-loop-digit l = l.number ≡ capped (fold with_digit l.start (take l.digit-index l.digits))
