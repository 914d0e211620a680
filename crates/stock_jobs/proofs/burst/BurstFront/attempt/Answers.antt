-- A job more was attempted.
use Rattle.std.proofs.Common.{◌≡◌, ℕ, suc, ◌+◌, ◌-◌, ◌<◌, List, [], ◌∷◌, ◌++◌, replicate, subst, arith}
use Rattle.interaction.specs.Attempts.{Attempt, Plays}
use Rattle.plug_api.specs.Inputs.{Inputs}
use Rattle.stock_jobs.specs.declared.burst.BurstFront.{BurstFront}
use Rattle.stock_jobs.specs.Burst.{answered, burst_from, burst_outputs}
use Rattle.stock_jobs.proofs.Goes.{GoesOn, goes_on_more, goes_on_plays}
use Rattle.stock_jobs.proofs.burst.BurstFront.attempt.Goals as goal

-- the next attempt of a burst
one_more : (jobs size number : ℕ) (given : Inputs) (front now : BurstFront) (attempts : List Attempt) (answer : ℕ) → number < jobs
    → GoesOn (burst_from jobs size given front 0) attempts (burst_from (jobs - number) size given now number)
    → GoesOn (burst_from jobs size given front 0) (attempts ++ record { body = replicate size number; answer = answer } ∷ [])
    (burst_from (jobs - (number + 1)) size given (answered now answer) (number + 1))
one_more jobs size number given front now attempts answer below goes =
    let more : jobs - number ≡ suc (jobs - (number + 1)) = omega (arith, below) in
    let on : GoesOn (burst_from jobs size given front 0) attempts (burst_from (suc (jobs - (number + 1))) size given now number) =
    subst (λ m. GoesOn (burst_from jobs size given front 0) attempts (burst_from m size given now number)) more goes in
    goes_on_more (burst_from jobs size given front 0) attempts (replicate size number)
    (λ said. burst_from (jobs - (number + 1)) size given (answered now said) (number + 1)) answer on

-- none is left
over : (jobs size number : ℕ) (given : Inputs) (front now : BurstFront) (attempts : List Attempt) → jobs - number ≡ 0
    → GoesOn (burst_from jobs size given front 0) attempts (burst_from (jobs - number) size given now number)
    → Plays (burst_from jobs size given front 0) attempts (now, burst_outputs now given)
over jobs size number given front now attempts none goes =
    goes_on_plays (burst_from jobs size given front 0) attempts (now, burst_outputs now given)
    (subst (λ m. GoesOn (burst_from jobs size given front 0) attempts (burst_from m size given now number)) none goes)

pub loop-number-preserved : goal.loop-number-preserved
loop-number-preserved g c =
    let before = c.loop-number.invariant in
    let attempt : List Attempt = record { body = replicate c.args.size c.loop-number.number; answer = c.schedule-answer.result } ∷ [] in (
      before.0 ++ attempt,
      g.met.S.Sched.chains.more _ _ _ before.0 attempt before.1 c.schedule-answer.ensures,
      λ given.
          rw c.tally.ensures
          (one_more c.args.jobs c.args.size c.loop-number.number given c.args.self.now c.loop-number.self before.0 c.schedule-answer.result
          c.loop-number-test.true (before.2 given)),
    )

pub returns : goal.returns
returns g c =
    let before = c.loop-number.invariant in
    (before.0, before.1, λ given. over c.args.jobs c.args.size c.loop-number.number given _ _ before.0 (omega arith) (before.2 given))
