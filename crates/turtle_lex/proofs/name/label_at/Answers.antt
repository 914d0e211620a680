use Rattle.std.proofs.Common.{refl, sym, Some}
use Rattle.turtle_grammar.specs.declared.token.TokenKind.TheVariants.{BlankLabel}
use Rattle.turtle_lex.specs.Names.{label_start, label}
use Rattle.turtle_lex.proofs.Picked.{pick_through, pick_none, pick_none_last}
use Rattle.turtle_lex.proofs.NameSteps.{label_begins, label_begins_digit, label_begins_not}
use Rattle.turtle_lex.proofs.name.label_at.Goals as goal

pub returns-in-None : goal.returns-in-None
returns-in-None c =
    pick_none_last c.args.text.now c.args.at label_start c.requires c.in-None.ensures refl

pub returns-then-is_name_start : goal.returns-then-is_name_start
returns-then-is_name_start c =
    pick_through c.args.text.now c.args.at c.in-Some.c c.in-Some.next label_start label (Some (BlankLabel, c.name_end-end.result)) c.requires c.in-Some.ensures (label_begins c.in-Some.c (sym c.if-is_name_start.ensures)) refl c.name_end-end.ensures.labels

pub returns-then-is_digit : goal.returns-then-is_digit
returns-then-is_digit c =
    pick_through c.args.text.now c.args.at c.in-Some.c c.in-Some.next label_start label (Some (BlankLabel, c.name_end-end-then-is_digit.result)) c.requires c.in-Some.ensures (label_begins_digit c.in-Some.c (sym c.if-is_name_start.ensures) (sym c.if-is_digit.ensures)) refl c.name_end-end-then-is_digit.ensures.labels

pub returns-else-is_digit : goal.returns-else-is_digit
returns-else-is_digit c =
    pick_none c.args.text.now c.args.at c.in-Some.c c.in-Some.next label_start c.requires c.in-Some.ensures (label_begins_not c.in-Some.c (sym c.if-is_name_start.ensures) (sym c.if-is_digit.ensures)) refl
