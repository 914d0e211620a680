use Rattle.std.proofs.Common.{◌≡◌, take}
use Rattle.judged_log.specs.Followed.{IsFollowed, entries_of}
use Rattle.judged_log.proofs.judged_log.JudgedLog.follow_between.Given as goal

-- the entries before a place were judged
abbrev pub invariant-loop-place : goal.invariant-loop-place
invariant-loop-place l = (l.self.log ≡ l.fn.self.log) × IsFollowed l.fn.shape (take l.place (entries_of l.fn.self.log.items)) l.self.follower
