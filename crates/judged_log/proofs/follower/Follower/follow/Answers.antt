use Rattle.std.proofs.Common.{rules, sym, ◌∙◌}
use Rattle.record_law.specs.Protocol.{history_of}
use Rattle.judged_log.proofs.Following.{has_judged, few_steps, next_is, followed_more}
use Rattle.judged_log.proofs.follower.Follower.follow.Goals as goal

pub follow-requires-clause-judged : goal.follow-requires-clause-judged
follow-requires-clause-judged c = has_judged c.args.shape.now c.args.self.now c.requires.followed

pub returns-in_err-about-clause-broken : goal.returns-in_err-about-clause-broken
returns-in_err-about-clause-broken c = λ steps few was.
    (search rules)
    ∙ c.in_err-about.ensures.broken (history_of c.args.shape.now steps) (few_steps c.args.shape.now steps few) was.judged
    ∙ sym (next_is c.args.shape.now steps c.args.entry c.args.self.now was c.if-self.false)

pub returns-clause-broken : goal.returns-clause-broken
returns-clause-broken c = λ steps few was.
    c.in_ok-about.ensures.broken (history_of c.args.shape.now steps) (few_steps c.args.shape.now steps few) was.judged
    ∙ sym (next_is c.args.shape.now steps c.args.entry c.args.self.now was c.if-self.false)

pub returns-clause-about : goal.returns-clause-about
returns-clause-about c = λ steps few was.
    c.in_ok-about.ensures.about (history_of c.args.shape.now steps) (few_steps c.args.shape.now steps few) was.judged

pub returns-clause-followed : goal.returns-clause-followed
returns-clause-followed c = λ steps few was.
    let shape = c.args.shape.now in
    let kept = few_steps shape steps few in
    followed_more shape steps c.args.entry c.args.self.now (record { judge = c.follow.new.self; ended = c.is_kind-self.result }) was c.if-self.false
    (sym (c.in_ok-about.ensures.broken (history_of shape steps) kept was.judged)) c.in_ok-about.ensures.judge
    (c.in_ok-about.ensures.judged (history_of shape steps) kept was.judged) c.is_kind-self.ensures
