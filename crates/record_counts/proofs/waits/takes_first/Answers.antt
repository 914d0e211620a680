use Rattle.std.proofs.Common.{◌≡◌, ◌<◌, ◌+◌, ◌*◌, nat_lt, false, length, map, sym, ◌∙◌, arith}
use Rattle.std.specs.List.{range_with_len}
use Rattle.std.proofs.lemmas.Bool.{cond-false}
use Rattle.step_law.specs.declared.actor.Actor.TheVariants.{Control}
use Rattle.step_law.specs.declared.ring.Ring.TheVariants.{AudioToControl, WorkerToControl}
use Rattle.step_law.specs.Entry.{take_of}
use Rattle.record_law.specs.Entries.{same_entry}
use Rattle.record_law.specs.History.{waiting}
use Rattle.record_law.specs.Waits.{takes_first}
use Rattle.record_counts.proofs.WaitLaws.{takes_none, takes_at}
use Rattle.record_counts.proofs.waits.takes_first.Goals as goal

pub returns-then-is_left-2 : goal.returns-then-is_left-2
returns-then-is_left-2 c h counted =
    let first : 1 < length c.args.rings.now = rw counted.all (omega arith) in
    let none : nat_lt 0 (waiting AudioToControl h) ≡ false = sym (c.if-is_left.ensures c.args.shape.now h counted first) in
    let few = c.requires.workers in
    let less = c.loop-worker-test.true in
    let within : 2 * c.loop-worker.worker + 1 < length c.args.rings.now = rw counted.all (omega (arith, few, less)) in
    c.is_take-then-is_left-2.ensures
    ∙ sym (takes_at h c.args.entry 1 c.args.shape.now.workers c.loop-worker.worker (omega arith) (omega (arith, less)) (λ w least most. c.loop-worker.invariant h counted w least most)
    (sym (c.if-is_left-2.ensures c.args.shape.now h counted within)))
    ∙ sym (cond-false (nat_lt 0 (waiting AudioToControl h)) (same_entry (take_of Control AudioToControl) c.args.entry) (takes_first (map WorkerToControl (range_with_len 1 c.args.shape.now.workers)) h c.args.entry) none)

pub returns : goal.returns
returns c h counted =
    let first : 1 < length c.args.rings.now = rw counted.all (omega arith) in
    let none : nat_lt 0 (waiting AudioToControl h) ≡ false = sym (c.if-is_left.ensures c.args.shape.now h counted first) in
    let all = c.loop-worker-test.false in
    sym (takes_none h c.args.entry 1 c.args.shape.now.workers (λ w least most. c.loop-worker.invariant h counted w least (omega (arith, all, most))))
    ∙ sym (cond-false (nat_lt 0 (waiting AudioToControl h)) (same_entry (take_of Control AudioToControl) c.args.entry) (takes_first (map WorkerToControl (range_with_len 1 c.args.shape.now.workers)) h c.args.entry) none)
