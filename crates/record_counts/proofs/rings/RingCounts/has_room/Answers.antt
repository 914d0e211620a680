use Rattle.std.proofs.Common.{◌+◌, ◌-◌, ◌<◌, nat_le, length, ap, sym, ◌∙◌}
use Rattle.step_law.specs.declared.entry.Kind.{Kind}
use Rattle.record_law.specs.Room as room
use Rattle.record_counts.specs.declared.rings.RingCount.{RingCount}
use Rattle.record_counts.proofs.Forms.{is_on_ring, form_ring_within}
use Rattle.record_counts.proofs.rings.RingCounts.has_room.Goals as goal

pub returns-in-Send : goal.returns-in-Send
returns-in-Send c h told form =
    let here : c.args.entry.a < length c.args.self.now = rw told.all (form_ring_within c.args.shape.now c.args.entry form (ap is_on_ring c.in-Send.is)) in
    rw c.from.ensures
    (ap (λ n. nat_le n (c.args.shape.now.cells + 1)) (c.waiting.ensures ∙ ap (λ (it : RingCount). it.sent - it.taken) (c.of.ensures c.args.shape.now h told here))
    ∙ sym (ap (λ (kind : Kind). room.has_room c.args.shape.now h kind c.args.entry.a) c.in-Send.is))
