use Rattle.std.proofs.Common.{length}
use Rattle.graph_order.specs.Lines.{first_broken}
use Rattle.graph_order.proofs.Answers.{not-both-of}
use Rattle.graph_order.proofs.Laws.{one-plan, one-fault}
use Rattle.graph_order.proofs.graph.one_answer.Goals as goal

pub returns-clause-plan : goal.returns-clause-plan
returns-clause-plan c = λ session decls a b first second. one-plan session.cables (length session.insts) a b first.plan second.plan

pub returns-clause-fault : goal.returns-clause-fault
returns-clause-fault c = λ session decls a b first second. one-fault (first_broken session decls) session.cables a b first second

pub returns-clause-not_both : goal.returns-clause-not_both
returns-clause-not_both c = λ session decls plan fault valid planned first. not-both-of session decls plan fault valid.cables planned first
