use Rattle.call_tally.proofs.Noting.{Noted}
use Rattle.call_tally.proofs.note_later.Given as goal

-- the entries before this one were noted
abbrev pub invariant-loop-entry : goal.invariant-loop-entry
invariant-loop-entry l = Noted l.entries l.entry-index l.fn.tally l.tally
