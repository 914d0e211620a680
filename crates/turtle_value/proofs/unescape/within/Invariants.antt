use Rattle.std.proofs.Common.{◌≡◌, ◌-◌, length, take, drop}
use Rattle.std.specs.Str.{chars, IsUtf8}
use Rattle.std.specs.Str.Iter.{chars_rest}
use Rattle.turtle_value.proofs.unescape.within.Given as goal

abbrev pub invariant-loop : goal.invariant-loop
invariant-loop l = IsUtf8 (chars_rest l.rest) × (chars (chars_rest l.rest) ≡ drop l.counter (chars l.text))

abbrev pub invariant-loop-2 : goal.invariant-loop-2
invariant-loop-2 l = IsUtf8 l.inner × (chars l.inner ≡ take (length (drop l.count (chars l.text)) - l.counter) (drop l.count (chars l.text)))
