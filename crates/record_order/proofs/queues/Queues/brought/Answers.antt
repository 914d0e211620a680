use Rattle.std.proofs.Common.{get_or, ap, sym, subst, ◌∙◌, []}
use Rattle.std.proofs.lemmas.Bool.{cond-true}
use Rattle.std.proofs.lemmas.Option.{slice_get-get_or}
use Rattle.step_law.specs.declared.entry.Kind.TheVariants.{Take}
use Rattle.step_law.specs.Ring.{ring_at}
use Rattle.record_law.specs.declared.shape.Shape.{Shape}
use Rattle.record_law.specs.Entries.{is_kind}
use Rattle.record_law.specs.History.{next_on}
use Rattle.record_law.specs.Message.{History}
use Rattle.record_law.specs.Message.Message.{nothing}
use Rattle.record_terms.specs.Message.{meaning_of}
use Rattle.order_base.specs.There.{IsThere}
use Rattle.record_order.specs.Queues.{first_in}
use Rattle.record_order.specs.Waiting.{Waiting}
use Rattle.record_order.proofs.QueueTables.{first_next, first_there}
use Rattle.record_order.proofs.queues.Queues.brought.Goals as goal

pub returns-then-is_kind-clause-brought : goal.returns-then-is_kind-clause-brought
returns-then-is_kind-clause-brought c =
    let queues = c.args.self.now.queues.items in
    let e = c.args.entry in
    let none : Waiting = record { room = 0; messages = [] } in
    let it : Waiting = get_or queues e.a none in
    let take = sym c.is_kind.ensures ∙ c.if-is_kind.true in
    let at = slice_get-get_or queues e.a none (c.requires take) in
    let first = c.first.ensures ∙ ap first_in at in
    λ (h : History) are.
    ap meaning_of first
    ∙ first_next (ring_at e.a) it.messages h (are e.a it at)
    ∙ sym (cond-true (is_kind Take e) (next_on (ring_at e.a) h) nothing take)

pub returns-then-is_kind-clause-there : goal.returns-then-is_kind-clause-there
returns-then-is_kind-clause-there c =
    let queues = c.args.self.now.queues.items in
    let e = c.args.entry in
    let none : Waiting = record { room = 0; messages = [] } in
    let it : Waiting = get_or queues e.a none in
    let take = sym c.is_kind.ensures ∙ c.if-is_kind.true in
    let at = slice_get-get_or queues e.a none (c.requires take) in
    let first = c.first.ensures ∙ ap first_in at in
    λ (s : Shape) there. subst (IsThere s) (sym first) (first_there s it.messages (there e.a it at))
