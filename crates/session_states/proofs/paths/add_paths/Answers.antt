use Rattle.std.proofs.Common.{◌∙◌}
use Rattle.session_states.proofs.Items.{so_far, next_path, all_paths}
use Rattle.session_states.proofs.paths.add_paths.Goals as goal

pub loop-restore-preserved : goal.loop-restore-preserved
loop-restore-preserved c =
    next_path c.loop-restore.paths.keys c.add_path.new.paths.keys c.args.restores.now c.loop-restore.restore-index c.restore-item.result
    c.loop-restore-test.true c.restore-item.is c.in_ok-add_path.ensures
    ∙ c.loop-restore.invariant

pub returns : goal.returns
returns c =
    all_paths c.loop-restore.paths.keys (so_far c.args.paths.now.keys c.args.restores.now) c.args.restores.now c.loop-restore.restore-index
    c.loop-restore-test.false c.loop-restore.invariant
