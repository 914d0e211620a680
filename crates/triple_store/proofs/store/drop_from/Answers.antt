use Rattle.std.proofs.Common.{arith, subst}
use Rattle.triple_store.specs.Index.{AreIndexed}
use Rattle.triple_store.proofs.Kept.{take_less}
use Rattle.triple_store.proofs.store.drop_from.Goals as goal

pub loop-left-preserved : goal.loop-left-preserved
loop-left-preserved c = (
  omega arith,
  omega arith,
  subst (AreIndexed c.drop_last.new.self) (take_less c.loop-left.left c.args.rows.now (omega arith)) c.drop_last.ensures,
)
