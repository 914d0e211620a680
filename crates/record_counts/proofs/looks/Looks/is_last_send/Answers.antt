use Rattle.std.proofs.Common.{◌≡◌, ◌+◌, ◌<◌, ap, ◌∙◌}
use Rattle.step_law.specs.declared.actor.Actor.{Actor}
use Rattle.step_law.specs.declared.entry.Kind.TheVariants.{Send}
use Rattle.step_law.specs.Actor.{actor_number}
use Rattle.step_law.specs.Ring.{ring_at}
use Rattle.record_law.specs.History.{own}
use Rattle.record_law.specs.Shape.{sender}
use Rattle.record_counts.specs.Looks.{newest_of, is_newest_on}
use Rattle.record_counts.proofs.SessionLaws.{sender_within}
use Rattle.record_counts.proofs.looks.Looks.is_last_send.Goals as goal

pub returns-in-Some : goal.returns-in-Some
returns-in-Some c h session told there =
    let owner : c.sender.result ≡ sender c.args.shape.now (ring_at c.args.ring) = c.sender.ensures ∙ ap (sender c.args.shape.now) c.from_number.ensures.value in
    let within : actor_number c.sender.result < 2 + c.args.shape.now.workers = rw owner (sender_within c.args.shape.now (ring_at c.args.ring) session there) in
    c.is_send_on.ensures ∙ ap (is_newest_on Send c.args.ring) (c.in-Some.ensures c.args.shape.now h told within ∙ ap (λ (actor : Actor). newest_of (own actor h)) owner)

pub returns-in-None : goal.returns-in-None
returns-in-None c h session told there =
    let owner : c.sender.result ≡ sender c.args.shape.now (ring_at c.args.ring) = c.sender.ensures ∙ ap (sender c.args.shape.now) c.from_number.ensures.value in
    let within : actor_number c.sender.result < 2 + c.args.shape.now.workers = rw owner (sender_within c.args.shape.now (ring_at c.args.ring) session there) in
    ap (is_newest_on Send c.args.ring) (c.in-None.ensures c.args.shape.now h told within ∙ ap (λ (actor : Actor). newest_of (own actor h)) owner)
