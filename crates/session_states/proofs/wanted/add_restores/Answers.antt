use Rattle.std.proofs.Common.{◌∙◌, ◌++◌}
use Rattle.std.specs.List.{filter_map}
use Rattle.session_states.specs.Restores.{restore_of}
use Rattle.session_states.proofs.Items.{next_found, all_found}
use Rattle.session_states.proofs.wanted.add_restores.Goals as goal

pub loop-action-preserved : goal.loop-action-preserved
loop-action-preserved c =
    next_found (restore_of c.args.insts.now) c.loop-action.restores c.add_restore.new.restores c.args.actions.now c.loop-action.action-index c.action-item.result
    c.loop-action-test.true c.action-item.is c.in_ok-add_restore.ensures
    ∙ c.loop-action.invariant

pub returns : goal.returns
returns c =
    all_found (restore_of c.args.insts.now) c.loop-action.restores (c.args.restores.now ++ filter_map (restore_of c.args.insts.now) c.args.actions.now) c.args.actions.now
    c.loop-action.action-index c.loop-action-test.false c.loop-action.invariant
