use Rattle.triple_store.proofs.SameTerm.{contains_is}
use Rattle.triple_store.proofs.late.contains.Goals as goal

pub returns : goal.returns
returns c = rw c.contains.ensures (contains_is c.args.rows.now.keys c.args.triple.now)
