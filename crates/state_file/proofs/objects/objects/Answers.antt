use Rattle.state_file.proofs.Rows.{objects-found}
use Rattle.state_file.proofs.objects.objects.Goals as goal

pub returns : goal.returns
returns c = objects-found c.args.store.now c.matching.result c.args.subject.now c.args.predicate c.args.kind c.matching.ensures
