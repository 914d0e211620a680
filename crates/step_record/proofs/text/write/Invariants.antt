use Rattle.std.proofs.Common.{◌≡◌, take}
use Rattle.step_record.specs.RecordText.{record_text}
use Rattle.step_record.proofs.text.write.Given as goal

-- the text so far is that of the entries so far
abbrev pub invariant-loop-entry : goal.invariant-loop-entry
invariant-loop-entry l = l.text ≡ record_text (take l.entry-index l.entry-items)
