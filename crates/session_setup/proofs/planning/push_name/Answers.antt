use Rattle.session_setup.proofs.Planned.{no-name}
use Rattle.session_setup.proofs.planning.push_name.Goals as goal

pub returns-in-None : goal.returns-in-None
returns-in-None c = no-name c.args.insts.now c.args.inst c.args.names.now c.in-None.ensures.lookup.3
