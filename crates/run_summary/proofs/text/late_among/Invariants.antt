use Rattle.std.proofs.Common.{◌≡◌, ◌+◌, ◌≤◌, drop}
use Rattle.run_summary.specs.Parts.{late_from}
use Rattle.run_summary.proofs.text.late_among.Given as goal

-- those so far, and those among the actions that are left
abbrev pub invariant-loop-place : goal.invariant-loop-place
invariant-loop-place l = record {
  most : l.late ≤ l.place;
  all : l.late + late_from l.tally l.place (drop l.place l.actions) ≡ late_from l.tally 0 l.actions;
}
