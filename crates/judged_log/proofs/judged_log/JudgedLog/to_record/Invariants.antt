use Rattle.std.proofs.Common.{◌≡◌, map, take, ℕ}
use Rattle.step_law.specs.declared.entry.Entry.{Entry}
use Rattle.judged_log.proofs.judged_log.JudgedLog.to_record.Given as goal

abbrev pub invariant-loop-entry : goal.invariant-loop-entry
invariant-loop-entry l = l.steps ≡ map (λ (mark : ℕ × Entry). mark.1) (take l.entry-index l.entry-items)
