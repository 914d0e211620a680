use Rattle.triple_store.proofs.SameTerm.{copy_of_term}
use Rattle.plugin_decl.proofs.objects.copy_of.Goals as goal

pub returns : goal.returns
returns c = copy_of_term c.args.term.now c.in_ok-clone.field-0 c.in_ok-clone.ensures.cases
