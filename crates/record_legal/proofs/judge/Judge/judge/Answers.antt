use Rattle.std.proofs.Common.{sym, ◌∙◌}
use Rattle.record_legal.proofs.Keeping.{if_none_broken}
use Rattle.record_legal.proofs.judge.Judge.judge.Goals as goal

pub returns-clause-broken : goal.returns-clause-broken
returns-clause-broken c = λ h few was. c.err.ensures.value ∙ c.follow.ensures.broken h few was

pub returns-clause-judge : goal.returns-clause-judge
returns-clause-judge c = λ none. if_none_broken c.follow.result c.follow.ensures.judge (sym c.err.ensures.value ∙ none)

pub returns-clause-judged : goal.returns-clause-judged
returns-clause-judged c = λ h few none was. if_none_broken c.follow.result c.follow.ensures.judged (sym c.err.ensures.value ∙ none) h few was
