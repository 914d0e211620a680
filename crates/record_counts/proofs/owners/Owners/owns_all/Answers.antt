use Rattle.std.proofs.Common.{ap, sym, ◌∙◌, ⊎_elim, length, ltb-true}
use Rattle.std.specs.List.{list_all}
use Rattle.step_law.specs.declared.entry.Kind.{Kind}
use Rattle.record_law.specs.Owners.{owns, parts_needed}
use Rattle.record_terms.specs.Message.{meaning_of}
use Rattle.record_counts.proofs.Forms.{form_begin, form_end}
use Rattle.record_counts.proofs.owners.Owners.owns_all.Goals as goal

pub returns-in-Begin : goal.returns-in-Begin
returns-in-Begin c h told form there =
    let needed = λ (kind : Kind). list_all (owns c.args.shape.now h c.args.entry) (parts_needed kind c.args.entry.a c.args.entry.b (meaning_of c.args.about)) in
    ⊎_elim
    (λ is.
    c.owns_called.ensures h told (ltb-true c.args.entry.b (length c.args.shape.now.insts) (form_begin c.args.shape.now c.args.entry form is).1)
    ∙ sym (ap needed is))
    (λ is.
    c.owns_called.ensures h told (ltb-true c.args.entry.b (length c.args.shape.now.insts) (form_end c.args.shape.now c.args.entry form is).1)
    ∙ sym (ap needed is))
    c.in-Begin.is
