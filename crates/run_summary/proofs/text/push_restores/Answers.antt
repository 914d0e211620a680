use Rattle.std.proofs.Common.{List, ◌≡◌, ◌++◌, ℕ, ap, ◌∙◌}
use Rattle.play_outcome.specs.Summary.{restore_line}
use Rattle.run_summary.proofs.Texts.{restores_more}
use Rattle.run_summary.proofs.text.push_restores.Goals as goal

pub loop-place-preserved : goal.loop-place-preserved
loop-place-preserved c =
    restores_more c.args.setup.now c.args.report.now c.as_slice-actions.result.now c.loop-place.place c.index-actions-place.result c.loop-place.text c.push_restore.new.text c.loop-place-test.true
    c.index-actions-place.is (rw c.status_at.ensures at c.in_ok-push_restore.ensures)
    ∙ c.loop-place.invariant
