use Rattle.std.proofs.Common.{◌-◌, ◌<◌, ℕ, nat_lt, length, ap, ◌∙◌}
use Rattle.step_law.specs.declared.ring.Ring.{Ring}
use Rattle.step_law.proofs.EventLaws.{ring_back}
use Rattle.step_law.specs.Ring.{ring_at}
use Rattle.record_law.specs.History.{waiting}
use Rattle.record_counts.specs.declared.rings.RingCount.{RingCount}
use Rattle.record_counts.proofs.waits.is_left.Goals as goal

pub returns : goal.returns
returns c shape h counted within =
    let here : c.number.result < length c.args.rings.now = rw c.number.ensures within in
    ap (λ n. nat_lt 0 n)
    (c.waiting.ensures ∙ ap (λ (it : RingCount). it.sent - it.taken) (c.of.ensures shape h counted here)
    ∙ ap (λ (n : ℕ). waiting (ring_at n) h) c.number.ensures
    ∙ ap (λ (ring : Ring). waiting ring h) (ring_back c.args.ring c.requires))
