use Rattle.std.proofs.Common.{◌||◌, not, Bool, [], ◌∷◌, ap, sym, subst, ◌∙◌, refl}
use Rattle.step_law.specs.declared.entry.Kind.TheVariants.{Last}
use Rattle.record_law.specs.declared.shape.Broken.TheVariants.{Look, Holder, Class, End}
use Rattle.record_law.specs.Entries.{is_kind}
use Rattle.record_law.specs.Message as meant
use Rattle.record_law.specs.Owners.{owns_all}
use Rattle.record_counts.specs.Owners.{IsAboutThere}
use Rattle.record_rules.proofs.Finding.{here, past}
use Rattle.record_rules.proofs.Naming.{about_there}
use Rattle.record_rules.proofs.counts.Counts.first_of_rest.Goals as goal

pub returns-then-not-keeps_looks : goal.returns-then-not-keeps_looks
returns-then-not-keeps_looks c h told asked =
    here c.args.shape.now h c.args.entry Look (Holder ∷ Class ∷ End ∷ []) c.keeps_looks.result (c.keeps_looks.ensures h told asked.form) c.if-not-keeps_looks.true

pub returns-then-not-owns_all : goal.returns-then-not-owns_all
returns-then-not-owns_all c h told asked =
    past c.args.shape.now h c.args.entry Look (Holder ∷ Class ∷ End ∷ []) c.keeps_looks.result _ (c.keeps_looks.ensures h told asked.form) c.if-not-keeps_looks.false
    (here c.args.shape.now h c.args.entry Holder (Class ∷ End ∷ []) c.owns_all.result ((c.owns_all.ensures h told.owners asked.form (subst (λ (m : meant.Message). IsAboutThere c.args.shape.now m) (sym asked.about) (about_there c.args.shape.now h c.args.entry c.requires told.kept)) ∙ ap (owns_all c.args.shape.now h c.args.entry) asked.about)) c.if-not-owns_all.true)

pub returns-then-not-keeps_class : goal.returns-then-not-keeps_class
returns-then-not-keeps_class c h told asked =
    past c.args.shape.now h c.args.entry Look (Holder ∷ Class ∷ End ∷ []) c.keeps_looks.result _ (c.keeps_looks.ensures h told asked.form) c.if-not-keeps_looks.false
    (past c.args.shape.now h c.args.entry Holder (Class ∷ End ∷ []) c.owns_all.result _ ((c.owns_all.ensures h told.owners asked.form (subst (λ (m : meant.Message). IsAboutThere c.args.shape.now m) (sym asked.about) (about_there c.args.shape.now h c.args.entry c.requires told.kept)) ∙ ap (owns_all c.args.shape.now h c.args.entry) asked.about)) c.if-not-owns_all.false
    (here c.args.shape.now h c.args.entry Class (End ∷ []) c.keeps_class.result (c.keeps_class.ensures c.args.shape.now h told.calls told.waits asked.form) c.if-not-keeps_class.true))

pub returns-then-not-keeps_end : goal.returns-then-not-keeps_end
returns-then-not-keeps_end c h told asked =
    past c.args.shape.now h c.args.entry Look (Holder ∷ Class ∷ End ∷ []) c.keeps_looks.result _ (c.keeps_looks.ensures h told asked.form) c.if-not-keeps_looks.false
    (past c.args.shape.now h c.args.entry Holder (Class ∷ End ∷ []) c.owns_all.result _ ((c.owns_all.ensures h told.owners asked.form (subst (λ (m : meant.Message). IsAboutThere c.args.shape.now m) (sym asked.about) (about_there c.args.shape.now h c.args.entry c.requires told.kept)) ∙ ap (owns_all c.args.shape.now h c.args.entry) asked.about)) c.if-not-owns_all.false
    (past c.args.shape.now h c.args.entry Class (End ∷ []) c.keeps_class.result _ (c.keeps_class.ensures c.args.shape.now h told.calls told.waits asked.form) c.if-not-keeps_class.false
    (here c.args.shape.now h c.args.entry End ([]) c.keeps_end.result ((c.keeps_end.ensures ∙ ap (λ (b : Bool). not (is_kind Last c.args.entry) || b) asked.next)) c.if-not-keeps_end.true)))

pub returns-else-not-keeps_end : goal.returns-else-not-keeps_end
returns-else-not-keeps_end c h told asked =
    past c.args.shape.now h c.args.entry Look (Holder ∷ Class ∷ End ∷ []) c.keeps_looks.result _ (c.keeps_looks.ensures h told asked.form) c.if-not-keeps_looks.false
    (past c.args.shape.now h c.args.entry Holder (Class ∷ End ∷ []) c.owns_all.result _ ((c.owns_all.ensures h told.owners asked.form (subst (λ (m : meant.Message). IsAboutThere c.args.shape.now m) (sym asked.about) (about_there c.args.shape.now h c.args.entry c.requires told.kept)) ∙ ap (owns_all c.args.shape.now h c.args.entry) asked.about)) c.if-not-owns_all.false
    (past c.args.shape.now h c.args.entry Class (End ∷ []) c.keeps_class.result _ (c.keeps_class.ensures c.args.shape.now h told.calls told.waits asked.form) c.if-not-keeps_class.false
    (past c.args.shape.now h c.args.entry End ([]) c.keeps_end.result _ ((c.keeps_end.ensures ∙ ap (λ (b : Bool). not (is_kind Last c.args.entry) || b) asked.next)) c.if-not-keeps_end.false
    (refl))))
