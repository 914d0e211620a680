use Rattle.plugin_decl.proofs.Rows.{objects-found}
use Rattle.plugin_decl.proofs.objects.objects.Goals as goal

pub returns : goal.returns
returns c = objects-found c.args.store.now c.matching.result c.args.subject.now c.args.predicate c.matching.ensures
