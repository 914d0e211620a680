use Rattle.std.proofs.Common.{◌≡◌, ◌-◌, ◌++◌, take, map, length}
use Rattle.run_notices.specs.Answers.{answers_in, kept}
use Rattle.run_notices.proofs.notices.tell.Given as goal

-- what was told so far, and what is left for the room that is left
abbrev pub invariant-loop-events : goal.invariant-loop-events
invariant-loop-events l =
    l.notices.items ++ map kept (take (16 - length l.notices.items) (answers_in l.events)) ≡ map kept (take 16 (answers_in l.initial.events))

abbrev pub decreases-loop-events : goal.decreases-loop-events
decreases-loop-events l = 16 - length l.notices.items
