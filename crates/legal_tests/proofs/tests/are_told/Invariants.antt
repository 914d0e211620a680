use Rattle.judged_log.specs.Followed.{IsFollowed, entries_of}
use Rattle.legal_tests.proofs.tests.are_told.Given as goal

-- the entries so far were followed
abbrev pub invariant-loop-entry : goal.invariant-loop-entry
invariant-loop-entry l = IsFollowed l.shape (entries_of l.log.log.items) l.log.follower
