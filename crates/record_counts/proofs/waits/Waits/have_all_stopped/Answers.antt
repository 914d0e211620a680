use Rattle.std.proofs.Common.{◌≡◌, ◌≤◌, false, sym, ap, ◌∙◌, arith}
use Rattle.std.specs.List.{list_all}
use Rattle.std.proofs.lemmas.Bool.{and_right}
use Rattle.step_law.specs.declared.actor.Actor.{Actor}
use Rattle.step_law.specs.declared.actor.Actor.TheVariants.{Audio, Worker}
use Rattle.step_law.specs.Entry.{stop_of}
use Rattle.record_law.specs.History.{has}
use Rattle.record_law.specs.Shape.{workers_of}
use Rattle.record_counts.proofs.Ranges.{all_hold, all_fail}
use Rattle.record_counts.proofs.WaitLaws.{worker_at, and_true}
use Rattle.record_counts.proofs.waits.Waits.have_all_stopped.Goals as goal

pub returns-then-not-has_stopped : goal.returns-then-not-has_stopped
returns-then-not-has_stopped c h told =
    let less = c.loop-worker-test.true in
    let some : 1 ≤ c.loop-worker.worker = omega arith in
    let none : has (stop_of (Worker c.loop-worker.worker)) h ≡ false =
    sym (ap (λ (actor : Actor). has (stop_of actor) h) (worker_at c.loop-worker.worker some))
    ∙ sym (c.has_stopped.ensures c.args.shape.now h told (omega (arith, less)))
    ∙ c.if-not-has_stopped.true in
    sym
    (and_right (has (stop_of Audio) h) (list_all (λ worker. has (stop_of (Worker worker)) h) (workers_of c.args.shape.now))
    (all_fail (λ worker. has (stop_of (Worker worker)) h) 1 c.args.shape.now.workers c.loop-worker.worker some (omega (arith, less)) none))

pub returns : goal.returns
returns c h told =
    let all = c.loop-worker-test.false in
    c.has_stopped-2.ensures c.args.shape.now h told (omega arith)
    ∙ sym (and_true (has (stop_of Audio) h) (list_all (λ worker. has (stop_of (Worker worker)) h) (workers_of c.args.shape.now))
    (all_hold (λ worker. has (stop_of (Worker worker)) h) 1 c.args.shape.now.workers (λ w least most. c.loop-worker.invariant h told w least (omega (arith, all, most)))))
