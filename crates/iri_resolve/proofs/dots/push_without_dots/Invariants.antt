use Rattle.std.proofs.Common.{◌≡◌, ◌≤◌, length, take, drop, vec_len}
use Rattle.iri_resolve.specs.Dots.{without_dots}
use Rattle.iri_resolve.proofs.Turns.{Makes}
use Rattle.iri_resolve.proofs.dots.push_without_dots.Given as goal

-- what was there stays, and the turns to come make what is wanted of the output so far
abbrev pub invariant-loop-input : goal.invariant-loop-input
invariant-loop-input l = record {
  same : take l.floor l.output.items ≡ l.fn.output.items;
  within : l.floor ≤ vec_len l.output;
  makes : Makes l.input (drop l.floor l.output.items) (without_dots l.fn.path);
}

abbrev pub decreases-loop-input : goal.decreases-loop-input
decreases-loop-input l = length l.input
