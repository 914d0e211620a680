use Rattle.std.proofs.Common.{refl}
use Rattle.turtle_grammar.specs.declared.token.TokenKind.TheVariants.{Double}
use Rattle.turtle_grammar.specs.Characters.{is_digit}
use Rattle.turtle_lex.specs.Numbers.{exponent_rest}
use Rattle.turtle_lex.proofs.Picked.{pick_run}
use Rattle.turtle_lex.proofs.NumberSteps.{rest_other, rest_loops}
use Rattle.turtle_lex.proofs.number.exponent_rest_at.Goals as goal

pub returns : goal.returns
returns c =
    pick_run is_digit c.args.text.now c.args.at c.end-end.result exponent_rest Double c.end-end.ensures rest_loops refl rest_other
