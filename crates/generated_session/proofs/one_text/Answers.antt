use Rattle.generated_session.proofs.Counted as counted
use Rattle.generated_session.proofs.one_text.Goals as goal

pub returns : goal.returns
returns c = counted.one_text
