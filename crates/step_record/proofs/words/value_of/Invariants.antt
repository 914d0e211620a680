use Rattle.std.proofs.Common.{◌≡◌, take}
use Rattle.std.specs.Prelude.{min}
use Rattle.step_record.specs.Words.{value_of}
use Rattle.step_record.proofs.words.value_of.Given as goal

-- 2^32 is more than each number
abbrev pub invariant-loop-digit : goal.invariant-loop-digit
invariant-loop-digit l = l.value ≡ min (value_of (take l.digit-index l.digits)) 4294967296
