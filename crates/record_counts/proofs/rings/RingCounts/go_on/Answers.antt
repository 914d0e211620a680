use Rattle.record_counts.specs.Step.{step_of}
use Rattle.record_counts.proofs.RingLaws.{after_send, after_take}
use Rattle.record_counts.proofs.rings.RingCounts.go_on.Goals as goal

pub returns-in-Send : goal.returns-in-Send
returns-in-Send c h about less told =
    rw c.put.ensures
    (after_send c.args.shape.now h (step_of c.args.entry about) c.args.self.now told c.of-count.result c.with_send.result c.in-Send.is less
    (λ within. c.of-count.ensures c.args.shape.now h told within)
    (λ few. rw (← c.from_number.ensures.value, ← c.sender-owner.ensures, ← c.is_by.ensures) (c.with_send.ensures few)))

pub returns-in-Take : goal.returns-in-Take
returns-in-Take c h about less told =
    rw c.put-in-Take.ensures
    (after_take c.args.shape.now h (step_of c.args.entry about) c.args.self.now told c.of-count.result c.with_take.result c.in-Take.is less
    (λ within. c.of-count.ensures c.args.shape.now h told within)
    c.with_take.ensures)
