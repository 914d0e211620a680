use Rattle.session_setup.specs.Planning.{name_at}
use Rattle.session_setup.proofs.Planned.{names-more}
use Rattle.session_setup.proofs.planning.push_names.Goals as goal

pub loop-inst-preserved : goal.loop-inst-preserved
loop-inst-preserved c =
    names-more (name_at c.args.insts.now) c.args.cycle.now c.loop-inst.inst-index c.args.names.now c.loop-inst.names c.push_name.new.names c.loop-inst-test.true c.loop-inst.invariant c.in_ok-push_name.ensures
