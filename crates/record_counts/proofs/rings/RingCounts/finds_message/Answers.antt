use Rattle.std.proofs.Common.{◌-◌, ◌<◌, nat_lt, length, ap, sym, ◌∙◌}
use Rattle.step_law.specs.declared.entry.Kind.{Kind}
use Rattle.record_law.specs.Room as room
use Rattle.record_counts.specs.declared.rings.RingCount.{RingCount}
use Rattle.record_counts.proofs.Forms.{is_on_ring, form_ring_within}
use Rattle.record_counts.proofs.rings.RingCounts.finds_message.Goals as goal

pub returns-in-Take : goal.returns-in-Take
returns-in-Take c shape h told form =
    let here : c.args.entry.a < length c.args.self.now = rw told.all (form_ring_within shape c.args.entry form (ap is_on_ring c.in-Take.is)) in
    ap (λ n. nat_lt 0 n) (c.waiting.ensures ∙ ap (λ (it : RingCount). it.sent - it.taken) (c.of.ensures shape h told here))
    ∙ sym (ap (λ (kind : Kind). room.finds_message h kind c.args.entry.a) c.in-Take.is)
