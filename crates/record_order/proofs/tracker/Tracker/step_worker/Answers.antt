use Rattle.std.proofs.Common.{◌≡◌, ◌+◌, ◌-◌, ◌≤◌, length, refl, ◌∙◌, arith, nat_le}
use Rattle.std.proofs.lemmas.Bool.{and_parts, leb-true}
use Rattle.std.proofs.lemmas.List.{length-set}
use Rattle.std.proofs.lemmas.Option.{slice_get_read}
use Rattle.record_order.proofs.Joint.{joint_worker, set_workers}
use Rattle.record_order.proofs.tracker.Tracker.step_worker.Goals as goal

pub step-requires-clause-tracker : goal.step-requires-clause-tracker
step-requires-clause-tracker c =
    let workers = c.args.self.now.workers.items in
    let there = and_parts (nat_le 1 c.args.worker) (nat_le c.args.worker c.args.shape.now.workers) c.requires.worker in
    let above : 1 ≤ c.args.worker = leb-true 1 c.args.worker there.0 in
    let below : c.args.worker ≤ c.args.shape.now.workers = leb-true c.args.worker c.args.shape.now.workers there.1 in
    let was = slice_get_read workers (length workers) (c.args.worker - 1) c.index_mut.result.now refl (omega (arith, above, below, c.requires.tracker.count)) c.index_mut.ensures.value in
    (c.requires.tracker.workers (c.args.worker - 1) c.index_mut.result.now was).1

pub returns-clause-tracker : goal.returns-clause-tracker
returns-clause-tracker c =
    let s = c.args.shape.now in
    let workers = c.args.self.now.workers.items in
    let i = c.args.worker - 1 in
    let there = and_parts (nat_le 1 c.args.worker) (nat_le c.args.worker s.workers) c.requires.worker in
    let above : 1 ≤ c.args.worker = leb-true 1 c.args.worker there.0 in
    let below : c.args.worker ≤ s.workers = leb-true c.args.worker s.workers there.1 in
    let was = slice_get_read workers (length workers) i c.index_mut.result.now refl (omega (arith, above, below, c.requires.tracker.count)) c.index_mut.ensures.value in
    record {
      audio = c.requires.tracker.audio;
      control = c.requires.tracker.control;
      workers = set_workers s workers i c.index_mut.result.now c.step.new.self was c.requires.tracker.workers c.step.ensures.worker c.step.ensures.tracker;
      count = length-set workers i c.step.new.self ∙ c.requires.tracker.count;
    }

pub returns-clause-goes : goal.returns-clause-goes
returns-clause-goes c =
    let s = c.args.shape.now in
    let workers = c.args.self.now.workers.items in
    let i = c.args.worker - 1 in
    let there = and_parts (nat_le 1 c.args.worker) (nat_le c.args.worker s.workers) c.requires.worker in
    let above : 1 ≤ c.args.worker = leb-true 1 c.args.worker there.0 in
    let below : c.args.worker ≤ s.workers = leb-true c.args.worker s.workers there.1 in
    let was = slice_get_read workers (length workers) i c.index_mut.result.now refl (omega (arith, above, below, c.requires.tracker.count)) c.index_mut.ensures.value in
    let by : c.args.entry.actor ≡ 2 + i = omega (arith, c.requires.actor, above) in
    joint_worker s c.args.self.now c.args.brought c.args.entry i c.index_mut.result.now c.step.new.self was by c.requires.tracker c.step.ensures.worker c.step.result
    c.step.ensures.goes
