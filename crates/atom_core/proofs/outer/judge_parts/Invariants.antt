use Rattle.std.proofs.Common.{◌≡◌, suc, ◌+◌, ◌-◌, ◌≤◌, length, Option}
use Rattle.atom_core.specs.declared.fault.AtomFault.{AtomFault}
use Rattle.atom_core.proofs.Walks.{AnswerOf, Left, Nested}
use Rattle.atom_core.proofs.outer.judge_parts.Given as goal

abbrev pub invariant-loop-at : goal.invariant-loop-at
invariant-loop-at l = record {
  -- whatever is left of the walk gives, it gives for the outer atom
  left : (answer : Option AtomFault) → Left l.bytes l.stack (suc l.depth) l.at answer → AnswerOf 16 l.bytes l.fn.outer.form l.fn.from l.fn.outer.end answer;
  nested : Nested l.stack (suc l.depth) l.at (length l.bytes);
  few : l.depth ≤ 16;
  long : length l.stack ≡ 17;
}

abbrev pub decreases-loop-at : goal.decreases-loop-at
decreases-loop-at l = length l.bytes - l.at + l.depth
