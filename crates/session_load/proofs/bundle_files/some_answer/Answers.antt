use Rattle.session_load.proofs.SomeLoading.{some_answer}
use Rattle.session_load.proofs.bundle_files.some_answer.Goals as goal

pub returns : goal.returns
returns c = some_answer
