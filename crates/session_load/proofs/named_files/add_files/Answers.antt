use Rattle.std.proofs.Common.{◌∙◌, ap, sym}
use Rattle.session_load.proofs.Once.{so_far, so_far-next, so_far-end}
use Rattle.session_load.proofs.named_files.add_files.Goals as goal

pub loop-row-init : goal.loop-row-init
loop-row-init c = (tt, tt, ap (λ rows. so_far c.args.plugins.now.keys c.args.folder.now c.args.files.now.keys rows) c.into_iter-row-iterator.ensures.into_iter_gives)

pub loop-row-preserved : goal.loop-row-preserved
loop-row-preserved c = (
  tt,
  tt,
  so_far-next c.args.plugins.now.keys c.args.folder.now c.loop-row.files.keys c.add_file.new.files.keys c.in-Some.row.now c.next.new.self c.in_ok-add_file.ensures
      ∙ (ap (λ rows. so_far c.args.plugins.now.keys c.args.folder.now c.loop-row.files.keys rows) (sym c.in-Some.ensures.steps)
      ∙ c.loop-row.invariant.2),
)

pub returns : goal.returns
returns c =
    so_far-end c.args.plugins.now.keys c.args.folder.now c.loop-row.files.keys c.loop-row.row-iterator c.in-None.ensures.steps.0 ∙ c.loop-row.invariant.2
