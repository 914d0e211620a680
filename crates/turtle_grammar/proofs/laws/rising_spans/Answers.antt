use Rattle.turtle_grammar.proofs.Spans.{rising_spans}
use Rattle.turtle_grammar.proofs.laws.rising_spans.Goals as goal

pub returns : goal.returns
returns c = rising_spans
