use Rattle.plugin_decl.proofs.Laws.{one_fault, not_both}
use Rattle.plugin_decl.proofs.reader.one_answer.Goals as goal

pub returns-clause-fault : goal.returns-clause-fault
returns-clause-fault c = one_fault

pub returns-clause-not_both : goal.returns-clause-not_both
returns-clause-not_both c = not_both
