use Rattle.std.proofs.Common.{refl, sym}
use Rattle.turtle_grammar.specs.declared.token.TokenKind.TheVariants.{Dot}
use Rattle.turtle_lex.specs.Kinds.{dot_start}
use Rattle.turtle_lex.specs.Numbers.{fraction}
use Rattle.turtle_lex.proofs.Picked.{pick_or, pick_only, pick_only_last}
use Rattle.turtle_lex.proofs.Starts.{dot_digit, dot_other}
use Rattle.turtle_lex.proofs.plain.dot_start_at.Goals as goal

pub returns-in-None : goal.returns-in-None
returns-in-None c =
    pick_only_last c.args.text.now c.args.at dot_start Dot c.requires c.in-None.ensures refl

pub returns-then-is_digit : goal.returns-then-is_digit
returns-then-is_digit c =
    pick_or c.args.text.now c.args.at c.in-Some.c c.in-Some.next dot_start fraction c.fraction_at.result c.found_or.result Dot c.requires c.in-Some.ensures (dot_digit c.in-Some.c (sym c.if-is_digit.ensures)) refl c.fraction_at.ensures c.found_or.ensures

pub returns-else-is_digit : goal.returns-else-is_digit
returns-else-is_digit c =
    pick_only c.args.text.now c.args.at c.in-Some.c c.in-Some.next dot_start Dot c.requires c.in-Some.ensures (dot_other c.in-Some.c (sym c.if-is_digit.ensures)) refl
