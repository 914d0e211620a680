-- The jobs so far were attempted, and the run goes on with the others.
use Rattle.std.proofs.Common.{◌-◌, List}
use Rattle.interaction.specs.Attempts.{Attempt}
use Rattle.plug_api.specs.Inputs.{Inputs}
use Rattle.stock_jobs.specs.Burst.{burst_from}
use Rattle.stock_jobs.proofs.Goes.{GoesOn}
use Rattle.stock_jobs.proofs.burst.BurstFront.attempt.Given as goal

abbrev pub invariant-loop-number : goal.invariant-loop-number
invariant-loop-number g l =
    (attempts : List Attempt) × g.S.Sched.went l.fn.sched attempts l.sched
    × ((given : Inputs) → GoesOn (burst_from l.jobs l.size given l.fn.self 0) attempts (burst_from (l.jobs - l.number) l.size given l.self l.number))
