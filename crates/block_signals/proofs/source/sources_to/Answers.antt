use Rattle.std.proofs.Common.{Some, None, sym, ◌∙◌}
use Rattle.std.proofs.lemmas.List.{append-nil}
use Rattle.block_signals.proofs.Sources.{kept_more}
use Rattle.block_signals.proofs.source.sources_to.Goals as goal
use Rattle.block_signals.proofs.source.sources_to.Goals.{in-Some+in_ok-push, in_default}

pub loop-cable-preserved : goal.loop-cable-preserved
loop-cable-preserved c =
    elim c.match-source_to.branch [
      | in-Some+in_ok-push w ↦ kept_more _ _ _ c.cable-item.result _ _ (Some w.in-Some.source) c.loop-cable-test.true c.cable-item.is c.loop-cable.invariant
          (sym w.in-Some.is ∙ c.source_to.ensures) (w.sources-is ∙ w.in_ok-push.ensures.ok)
      | in_default w ↦ kept_more _ _ _ c.cable-item.result _ _ None c.loop-cable-test.true c.cable-item.is c.loop-cable.invariant
          (sym w.in_default.is ∙ c.source_to.ensures) (w.sources-is ∙ sym (append-nil _))
    ]
