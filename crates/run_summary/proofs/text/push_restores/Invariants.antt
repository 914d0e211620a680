use Rattle.std.proofs.Common.{◌≡◌, ◌++◌, drop}
use Rattle.run_summary.specs.Parts.{restores_from}
use Rattle.run_summary.proofs.text.push_restores.Given as goal

-- the lines so far, and those of the actions that are left
abbrev pub invariant-loop-place : goal.invariant-loop-place
invariant-loop-place l =
    l.text ++ restores_from l.setup l.report l.place (drop l.place l.actions) ≡ l.fn.text ++ restores_from l.setup l.report 0 l.actions
