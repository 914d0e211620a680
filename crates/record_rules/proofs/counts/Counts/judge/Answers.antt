use Rattle.std.proofs.Common.{Option, unwrap_or, ap, sym, ◌∙◌}
use Rattle.record_law.specs.Message.{Message}
use Rattle.record_law.specs.Message.Message.{nothing}
use Rattle.record_law.specs.Protocol.{follow_in}
use Rattle.record_rules.proofs.Finding.{about_is}
use Rattle.record_rules.proofs.counts.Counts.judge.Goals as goal

pub returns-then-is_none-clause-kept : goal.returns-then-is_none-clause-kept
returns-then-is_none-clause-kept c h none less told follows =
    c.go_on.ensures h less told (sym (c.first_broken-broken.ensures h told follows) ∙ none)
    (c.about_of.ensures ∙ ap (λ (o : Option Message). unwrap_or o nothing) follows ∙ about_is (follow_in c.args.shape.now h c.args.entry))
