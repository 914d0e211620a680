use Rattle.plugin_decl.proofs.SomeAnswer.{some_answer}
use Rattle.plugin_decl.proofs.reader.some_answer.Goals as goal

pub returns : goal.returns
returns c = some_answer
