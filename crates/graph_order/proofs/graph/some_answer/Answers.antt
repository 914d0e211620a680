use Rattle.std.proofs.Common.{refl}
use Rattle.graph_order.specs.Lines.{first_broken}
use Rattle.graph_order.proofs.SomeAnswer.{answered}
use Rattle.graph_order.proofs.graph.some_answer.Goals as goal

pub returns : goal.returns
returns c = λ session decls valid. answered session decls (first_broken session decls) refl valid.cables
