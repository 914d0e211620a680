use Rattle.std.proofs.Common.{length, slice_set, sym, subst, refl, ◌∷◌, ◌∙◌}
use Rattle.std.proofs.lemmas.List.Elements.{All-push, All-drop}
use Rattle.std.proofs.lemmas.Option.{slice_get_read}
use Rattle.record_law.specs.declared.shape.Shape.{Shape}
use Rattle.record_law.specs.Message.{History}
use Rattle.order_base.specs.Answer.{step_of}
use Rattle.order_base.specs.There.{IsThere}
use Rattle.record_order.specs.Queues.{AreQueues, AreThere}
use Rattle.record_order.specs.Waiting.{with_message, without_first}
use Rattle.record_order.proofs.QueueTables.{queues_sent, queues_taken, queues_kept, there_set}
use Rattle.record_order.proofs.queues.Queues.note.Goals as goal

pub returns-then-is_kind-clause-noted : goal.returns-then-is_kind-clause-noted
returns-then-is_kind-clause-noted c =
    let queues = c.args.self.now.queues.items in
    let e = c.args.entry in
    let it = c.index_mut.result.now in
    let send = sym c.is_kind.ensures ∙ c.if-is_kind.true in
    let at = slice_get_read queues (length queues) e.a it refl (c.requires.sends send) c.index_mut.ensures.value in
    λ (h : History) are.
    subst (λ new. AreQueues (slice_set queues e.a new) (step_of e c.args.about ∷ h)) (sym c.add.ensures) (queues_sent e c.args.about h queues it at send are)

pub returns-then-is_kind-clause-there : goal.returns-then-is_kind-clause-there
returns-then-is_kind-clause-there c =
    let queues = c.args.self.now.queues.items in
    let e = c.args.entry in
    let it = c.index_mut.result.now in
    let send = sym c.is_kind.ensures ∙ c.if-is_kind.true in
    let at = slice_get_read queues (length queues) e.a it refl (c.requires.sends send) c.index_mut.ensures.value in
    λ (s : Shape) about there.
    subst (λ new. AreThere s (slice_set queues e.a new)) (sym c.add.ensures)
    (there_set s queues e.a (with_message it c.args.about) (All-push (IsThere s) it.messages c.args.about (there e.a it at) about) there)

pub returns-then-is_kind-2-clause-noted : goal.returns-then-is_kind-2-clause-noted
returns-then-is_kind-2-clause-noted c =
    let queues = c.args.self.now.queues.items in
    let e = c.args.entry in
    let it = c.index_mut-then-is_kind-2.result.now in
    let take = sym c.is_kind-else-is_kind.ensures ∙ c.if-is_kind-2.true in
    let at = slice_get_read queues (length queues) e.a it refl (c.requires.takes take) c.index_mut-then-is_kind-2.ensures.value in
    let some = c.requires.finds take it at in
    λ (h : History) are.
    subst (λ new. AreQueues (slice_set queues e.a new) (step_of e c.args.about ∷ h)) (sym c.take.ensures)
    (queues_taken e c.args.about h queues it at take some are)

pub returns-then-is_kind-2-clause-there : goal.returns-then-is_kind-2-clause-there
returns-then-is_kind-2-clause-there c =
    let queues = c.args.self.now.queues.items in
    let e = c.args.entry in
    let it = c.index_mut-then-is_kind-2.result.now in
    let take = sym c.is_kind-else-is_kind.ensures ∙ c.if-is_kind-2.true in
    let at = slice_get_read queues (length queues) e.a it refl (c.requires.takes take) c.index_mut-then-is_kind-2.ensures.value in
    λ (s : Shape) about there.
    subst (λ new. AreThere s (slice_set queues e.a new)) (sym c.take.ensures)
    (there_set s queues e.a (without_first it) (All-drop (IsThere s) 1 it.messages (there e.a it at)) there)

pub returns-else-is_kind-2-clause-noted : goal.returns-else-is_kind-2-clause-noted
returns-else-is_kind-2-clause-noted c =
    let send = sym c.is_kind.ensures ∙ c.if-is_kind.false in
    let take = sym c.is_kind-else-is_kind.ensures ∙ c.if-is_kind-2.false in
    λ (h : History) are. queues_kept c.args.entry c.args.about h c.args.self.now.queues.items send take are
