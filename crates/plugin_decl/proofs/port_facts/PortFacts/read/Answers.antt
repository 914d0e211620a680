use Rattle.plugin_decl.proofs.PortFacts.{facts-of-port}
use Rattle.plugin_decl.proofs.port_facts.PortFacts.read.Goals as goal

pub returns : goal.returns
returns c = facts-of-port c.args.store.now c.matching.result c.args.port.now c.with_rows.result c.matching.ensures c.with_rows.ensures
