use Rattle.session_script.proofs.Existence as existence
use Rattle.session_script.proofs.reader.some_answer.Goals as goal

pub returns : goal.returns
returns c = existence.some_answer
