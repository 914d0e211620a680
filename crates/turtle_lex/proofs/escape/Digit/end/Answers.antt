use Rattle.turtle_grammar.specs.Pattern.{one}
use Rattle.turtle_lex.specs.Digits.{digit_class}
use Rattle.turtle_lex.proofs.Inside.{inside_last, inside_wrong, inside_end}
use Rattle.turtle_lex.proofs.Codes.{one_yes, one_no, digit_live}
use Rattle.std.proofs.Common.{refl, sym}
use Rattle.turtle_lex.proofs.escape.Digit.end.Goals as goal

pub returns-in-None-clause-inside : goal.returns-in-None-clause-inside
returns-in-None-clause-inside c = inside_end c.args.text.now c.args.at (one (digit_class c.args.self)) c.in-None.ensures (digit_live c.args.self)

pub returns-then-is_met-clause-inside : goal.returns-then-is_met-clause-inside
returns-then-is_met-clause-inside c =
    inside_last c.args.text.now c.args.at c.in-Some.c c.in-Some.next (one (digit_class c.args.self)) c.in-Some.ensures
    (one_yes (digit_class c.args.self) c.in-Some.c (sym c.if-is_met.ensures)) refl

pub returns-else-is_met-clause-inside : goal.returns-else-is_met-clause-inside
returns-else-is_met-clause-inside c =
    inside_wrong c.args.text.now c.args.at c.in-Some.c c.in-Some.next (one (digit_class c.args.self)) c.requires c.in-Some.ensures
    (one_no (digit_class c.args.self) c.in-Some.c (sym c.if-is_met.ensures)) refl (digit_live c.args.self)
