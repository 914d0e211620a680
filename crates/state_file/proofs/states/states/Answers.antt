use Rattle.state_file.proofs.Rows.{states-found}
use Rattle.state_file.proofs.states.states.Goals as goal

pub returns : goal.returns
returns c = states-found c.args.store.now c.matching.result c.matching.ensures
