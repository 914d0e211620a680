use Rattle.turtle_read.specs.States.{kept_of}
use Rattle.turtle_read.proofs.environment.Environment.into_old_store.Goals as goal

pub returns : goal.returns
unfolding kept_of
returns c = c.cut.ensures
