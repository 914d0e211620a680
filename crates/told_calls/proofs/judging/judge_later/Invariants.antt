use Rattle.std.proofs.Common.{◌≡◌, take}
use Rattle.judged_log.specs.Followed.{IsFollowed, entries_of}
use Rattle.told_calls.proofs.Judged.{SayKindsTo}
use Rattle.told_calls.proofs.judging.judge_later.Given as goal

-- the entries before a place were judged, and are about what their kinds say
abbrev pub invariant-loop-place : goal.invariant-loop-place
invariant-loop-place l =
    (l.log.log ≡ l.fn.log.log) × IsFollowed l.fn.shape (take l.place (entries_of l.fn.log.log.items)) l.log.follower
    × SayKindsTo l.fn.shape (entries_of l.fn.log.log.items) l.fn.from l.place
