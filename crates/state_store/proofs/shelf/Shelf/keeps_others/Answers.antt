use Rattle.state_store.proofs.Ordered.{held_stored, held_other}
use Rattle.state_store.proofs.shelf.Shelf.keeps_others.Goals as goal

pub returns-clause-stored : goal.returns-clause-stored
returns-clause-stored c = λ key prop. held_stored c.args.self.now.rows key prop

pub returns-clause-others : goal.returns-clause-others
returns-clause-others c = λ key other prop apart. held_other c.args.self.now.rows key prop other apart
