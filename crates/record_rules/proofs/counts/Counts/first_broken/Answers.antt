use Rattle.std.proofs.Common.{◌||◌, ◌∷◌, [], Bool, Option, ap, sym, ◌∙◌, unwrap_or}
use Rattle.step_law.specs.declared.entry.Kind.TheVariants.{Last}
use Rattle.record_law.specs.declared.shape.Broken.TheVariants.{Syntax, Order, Ring, Full, Room, Look, Holder, Class, End}
use Rattle.record_law.specs.Entries.{is_kind}
use Rattle.record_law.specs.Message.{Message}
use Rattle.record_law.specs.Message.Message.{nothing}
use Rattle.record_law.specs.Protocol.{follow_in}
use Rattle.record_rules.specs.Counts.{IsAsked}
use Rattle.record_rules.proofs.Finding.{here, past, about_is}
use Rattle.record_rules.proofs.counts.Counts.first_broken.Goals as goal

pub returns-then-not-has_form : goal.returns-then-not-has_form
returns-then-not-has_form c h told follows =
    here c.args.shape.now h c.args.entry Syntax (Order ∷ Ring ∷ Full ∷ Room ∷ Look ∷ Holder ∷ Class ∷ End ∷ []) c.has_form.result c.has_form.ensures c.if-not-has_form.true

pub returns-then-not-keeps_order : goal.returns-then-not-keeps_order
returns-then-not-keeps_order c h told follows =
    past c.args.shape.now h c.args.entry Syntax (Order ∷ Ring ∷ Full ∷ Room ∷ Look ∷ Holder ∷ Class ∷ End ∷ []) c.has_form.result _ c.has_form.ensures c.if-not-has_form.false
    (here c.args.shape.now h c.args.entry Order (Ring ∷ Full ∷ Room ∷ Look ∷ Holder ∷ Class ∷ End ∷ []) c.keeps_order.result
    (c.keeps_order.ensures ∙ ap (λ (b : Bool). is_kind Last c.args.entry || b) (c.is_next-is_next.ensures h told follows)) c.if-not-keeps_order.true)

pub returns-else-not-keeps_order : goal.returns-else-not-keeps_order
returns-else-not-keeps_order c h told follows =
    let asked : IsAsked c.args.shape.now h c.args.entry c.about_of-about.result c.is_next-is_next.result =
    record {
      form = sym c.has_form.ensures ∙ c.if-not-has_form.false;
      about = c.about_of-about.ensures ∙ ap (λ (o : Option Message). unwrap_or o nothing) follows ∙ about_is (follow_in c.args.shape.now h c.args.entry);
      next = c.is_next-is_next.ensures h told follows;
    } in
    past c.args.shape.now h c.args.entry Syntax (Order ∷ Ring ∷ Full ∷ Room ∷ Look ∷ Holder ∷ Class ∷ End ∷ []) c.has_form.result _ c.has_form.ensures c.if-not-has_form.false
    (past c.args.shape.now h c.args.entry Order (Ring ∷ Full ∷ Room ∷ Look ∷ Holder ∷ Class ∷ End ∷ []) c.keeps_order.result _
    (c.keeps_order.ensures ∙ ap (λ (b : Bool). is_kind Last c.args.entry || b) (c.is_next-is_next.ensures h told follows)) c.if-not-keeps_order.false
    (c.first_on_rings.ensures h told asked))
