use Rattle.session_load.proofs.OneLoading.{one_answer}
use Rattle.session_load.proofs.bundle_files.one_answer.Goals as goal

pub returns : goal.returns
returns c = one_answer
