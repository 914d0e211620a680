use Rattle.cable_trace.proofs.Tells.{drawn_same, drawn_more, drawn_first}
use Rattle.cable_trace.proofs.laws.draws_in_order.Goals as goal

pub returns-clause-uses : goal.returns-clause-uses
returns-clause-uses g c = λ ticket trace action e. drawn_same trace ticket action e

pub returns-clause-draws : goal.returns-clause-draws
returns-clause-draws g c = λ ticket trace action e. drawn_more trace ticket action e

pub returns-clause-first : goal.returns-clause-first
returns-clause-first g c = λ ticket trace e. drawn_first trace ticket e
