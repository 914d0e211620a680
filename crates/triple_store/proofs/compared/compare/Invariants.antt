use Rattle.std.proofs.Common.{◌≡◌, ◌≤◌, ◌++◌, take, length, Contains}
use Rattle.triple_store.proofs.compared.compare.Given as goal

abbrev pub invariant-loop : goal.invariant-loop
invariant-loop l = (l.fn.chain ≡ take l.counter l.fn.chain ++ l.left) × (l.counter ≤ length l.fn.chain) × (¬ Contains (take l.counter l.fn.chain) l.triple)
