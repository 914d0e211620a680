use Rattle.std.proofs.Common.{◌≡◌, ◌+◌, drop}
use Rattle.std.specs.List.{position_or_len}
use Rattle.state_file.specs.Order.{comes_before}
use Rattle.state_file.proofs.order.place_of.Given as goal

-- no URI so far comes after the key's
abbrev pub invariant-loop-place : goal.invariant-loop-place
invariant-loop-place l = position_or_len (comes_before l.urids l.key) l.keys ≡ l.place + position_or_len (comes_before l.urids l.key) (drop l.place l.keys)
