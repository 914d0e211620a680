use Rattle.std.proofs.Common.{◌≡◌, ℕ, ◌<◌, ◌≤◌, true, false}
use Rattle.plug_api.specs.Roles.{has_atom}
use Rattle.stock_tests.proofs.tests.bench.takes_first.Given as goal

abbrev pub invariant-loop-i : goal.invariant-loop-i
invariant-loop-i l = (k : ℕ) → 1 ≤ k → k < l.i → has_atom true l.ports k ≡ false
