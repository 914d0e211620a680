use Rattle.std.proofs.Common.{◌∙◌, ap, sym}
use Rattle.triple_store.proofs.SameTerm.{copy_of_term}
use Rattle.session_load.proofs.Plugins.{finds, finds-insert, finds-end}
use Rattle.session_load.proofs.named_files.add_subjects.Goals as goal

pub loop-row-preserved : goal.loop-row-preserved
loop-row-preserved c =
    let copied = copy_of_term c.in-Some.row.now.s c.in_ok-clone.field-0 c.in_ok-clone.ensures.cases in (
      tt,
      tt,
      λ s.
          finds-insert c.loop-row.terms.keys c.insert.new.self.keys _ c.in-Some.row.now c.next.new.self copied c.in_ok-insert.ensures.keys s
          ∙ (ap (λ rows. finds c.loop-row.terms.keys rows s) (sym c.in-Some.ensures.steps) ∙ c.loop-row.invariant.2 s),
    )

pub returns : goal.returns
returns c = λ s. finds-end c.loop-row.terms.keys c.loop-row.row-iterator c.in-None.ensures.steps.0 s ∙ c.loop-row.invariant.2 s
