use Rattle.worker_order.proofs.worker.WorkerView.asked.Goals as goal

pub expect-requires-clause-stage : goal.expect-requires-clause-stage
expect-requires-clause-stage c = c.effect_of.ensures.stage c.args.self.now.shape.now c.requires.brought
