use Rattle.generated_session.proofs.Counted as counted
use Rattle.generated_session.proofs.some_text.Goals as goal

pub returns : goal.returns
returns c = counted.some_text
