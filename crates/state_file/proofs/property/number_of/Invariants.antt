use Rattle.std.proofs.Common.{◌≡◌, ◌^◌, take, fold, min}
use Rattle.lv_base.specs.Decimal.{with_digit}
use Rattle.state_file.proofs.property.number_of.Given as goal

-- what the digits so far spell, up to the bound
abbrev pub invariant-loop-digit : goal.invariant-loop-digit
invariant-loop-digit l = l.number ≡ min (fold with_digit 0 (take l.digit-index l.digits)) (2 ^ 16)
