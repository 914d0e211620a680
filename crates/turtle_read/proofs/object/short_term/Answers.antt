use Rattle.std.proofs.Common.{Some, ap, ◌∙◌}
use Rattle.turtle_document.specs.Machine.{as_shorthand}
use Rattle.turtle_read.proofs.Moves as laws
use Rattle.turtle_read.proofs.object.short_term.Goals as goal

pub returns-in_default : goal.returns-in_default
returns-in_default c = laws.no_short (as_shorthand c.args.token.kind) c.args.token.text.now c.in_default.ensures

pub returns : goal.returns
returns c =
    laws.short_by (as_shorthand c.args.token.kind) c.args.token.text.now c.in_ok-datatype.datatype c.in_ok-text.text c.in_ok-term.term (ap Some c.in_ok-datatype.ensures.cases ∙ c.in-Some.ensures) c.in_ok-text.ensures c.in_ok-term.ensures
