use Rattle.std.proofs.Common.{length, refl, ◌∙◌}
use Rattle.std.proofs.lemmas.Option.{slice_get_read}
use Rattle.step_law.specs.Ring.{ring_at}
use Rattle.record_law.specs.Message.{History}
use Rattle.record_order.proofs.QueueTables.{waiting_is}
use Rattle.record_order.proofs.queues.Queues.waiting.Goals as goal

pub returns-clause-after : goal.returns-clause-after
returns-clause-after c =
    let queues = c.args.self.now.queues.items in
    let it = c.index.result.now in
    let at = slice_get_read queues (length queues) c.args.ring it refl c.requires c.index.ensures in
    λ (h : History) are. c.len.ensures ∙ waiting_is (ring_at c.args.ring) it.messages h (are c.args.ring it at)
