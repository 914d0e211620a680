use mir.Val.{bool_byte}
use Rattle.std.proofs.Common.{◌≡◌, ◌<◌, ◌-◌, ℕ, length, ap, sym, ◌∙◌}
use Rattle.step_law.specs.declared.entry.Kind.TheVariants.{Take, Send}
use Rattle.step_law.specs.Ring.{ring_at}
use Rattle.record_law.specs.History.{count, own}
use Rattle.record_law.specs.Shape.{sender}
use Rattle.record_counts.specs.declared.rings.RingCount.{RingCount}
use Rattle.record_counts.specs.Rings.{count_at}
use Rattle.record_counts.specs.Looks.{newest_of, is_newest_on}
use Rattle.record_counts.proofs.Forms.{ring_within}
use Rattle.record_counts.proofs.LookLaws.{settled_sends}
use Rattle.record_counts.proofs.looks.Looks.settled_waiting.Goals as goal

pub returns : goal.returns
returns c h session counted told there =
    let here : c.args.ring < length c.args.rings.now = rw counted.all (ring_within c.args.shape.now c.args.ring there) in
    let counts : c.of-count.result ≡ count_at c.args.shape.now h c.args.ring = c.of-count.ensures c.args.shape.now h counted here in
    let newest = c.is_last_send.ensures h session told there in
    c.saturating_sub-2.ensures
    ∙ ap (λ (n : ℕ). n - c.of-count.result.taken) (c.saturating_sub.ensures ∙ ap (λ (n : ℕ). c.of-count.result.by_sender - n) (c.from-newest.ensures ∙ ap bool_byte newest))
    ∙ ap (λ (it : RingCount). it.by_sender - bool_byte (is_newest_on Send c.args.ring (newest_of (own (sender c.args.shape.now (ring_at c.args.ring)) h))) - it.taken) counts
    ∙ ap (λ (n : ℕ). n - count Take (ring_at c.args.ring) h) (sym (settled_sends c.args.ring (sender c.args.shape.now (ring_at c.args.ring)) h))
