use Rattle.std.proofs.Common.{None, sym, subst}
use Rattle.turtle_value.specs.Escaping.{Steps}
use Rattle.turtle_value.specs.declared.unescape.Escape.{Escape}
use Rattle.turtle_value.specs.declared.unescape.Escape.TheVariants as escape
use Rattle.turtle_value.proofs.Steps.{at_backslash}
use Rattle.turtle_value.proofs.unescape.step.Goals as goal

pub returns-in-None : goal.returns-in-None
returns-in-None c =
    let P : Escape → Type 0 = λ x. Steps x c.args.c None escape.Backslash in
    subst P (sym c.in-None.is) (at_backslash c.args.c c.if-c-eq92.true)
