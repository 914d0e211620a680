use Rattle.turtle_read.proofs.Environments.{nothing_bound, begun}
use Rattle.turtle_read.proofs.environment.Environment.new.Goals as goal

pub returns-clause-state : goal.returns-clause-state
returns-clause-state c =
    begun c.args.base c.args.store c.blanks-blanks.result _ _ _ (nothing_bound c.with_hasher.result c.with_hasher.ensures.empty) (nothing_bound c.with_hasher-2.result c.with_hasher-2.ensures.empty) c.blanks-blanks.ensures
