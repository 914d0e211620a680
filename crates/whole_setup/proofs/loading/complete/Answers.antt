use Rattle.std.proofs.Common.{subst, sym}
use Rattle.graph_order.specs.Setup.{IsReady}
use Rattle.whole_setup.proofs.loading.complete.Goals as goal

pub returns-clause-ready : goal.returns-clause-ready
returns-clause-ready g c = subst IsReady (sym c.with_states.ensures) (c.requires c.in_ok-states.states)
