use Rattle.std.proofs.Common.{◌∷◌, sym, subst, ◌∙◌}
use Rattle.record_law.specs.Message.{Step, History, Message}
use Rattle.worker_order.specs.Locals.{AreLocals}
use Rattle.worker_order.proofs.LocalTables.{noted_set, noted_past, noted_none}
use Rattle.worker_order.proofs.locals.note_local.Goals as goal

pub returns-in-Some-copied-clause-noted : goal.returns-in-Some-copied-clause-noted
returns-in-Some-copied-clause-noted c =
    λ (h : History) (about : Message) are.
    let x : Step = record { entry = c.args.entry; about = about } in
    subst (λ locals. AreLocals locals (x ∷ h)) (sym c.set.ensures)
    (noted_set x h c.args.locals.now c.in-Some.inst c.in-Some-copied.before c.counted.result (sym c.local_inst.ensures ∙ c.in-Some.is)
    (sym c.get.ensures.value ∙ sym c.copied.ensures ∙ c.in-Some-copied.is) c.counted.ensures.sent c.counted.ensures.taken are)

pub returns-in_default-copied-clause-noted : goal.returns-in_default-copied-clause-noted
returns-in_default-copied-clause-noted c =
    λ (h : History) (about : Message) are.
    let x : Step = record { entry = c.args.entry; about = about } in
    noted_past x h c.args.locals.now c.in-Some.inst (sym c.local_inst.ensures ∙ c.in-Some.is) (sym c.get.ensures.value ∙ sym c.copied.ensures ∙ c.in_default-copied.is) are

pub returns-in_default-clause-noted : goal.returns-in_default-clause-noted
returns-in_default-clause-noted c =
    λ (h : History) (about : Message) are.
    let x : Step = record { entry = c.args.entry; about = about } in
    noted_none x h c.args.locals.now c.requires (sym c.local_inst.ensures ∙ c.in_default.is) are
