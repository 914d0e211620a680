use Rattle.std.proofs.Common.{◌≡◌, length}
use Rattle.run_notices.specs.Answers.{answers_in}
use Rattle.run_notices.proofs.answer.next_answer.Given as goal

-- no answer was passed over
abbrev pub invariant-loop-told : goal.invariant-loop-told
invariant-loop-told l = answers_in l.events ≡ answers_in l.initial.events

abbrev pub decreases-loop-told : goal.decreases-loop-told
decreases-loop-told l = length l.events
