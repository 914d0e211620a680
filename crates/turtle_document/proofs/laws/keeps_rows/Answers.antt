use Rattle.turtle_document.proofs.Rows.{keeps_rows}
use Rattle.turtle_document.proofs.laws.keeps_rows.Goals as goal

pub returns : goal.returns
returns c = keeps_rows
