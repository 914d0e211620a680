use Rattle.std.proofs.Common.{sym}
use Rattle.turtle_grammar.specs.Characters.{is_local_escape}
use Rattle.turtle_grammar.specs.Pattern.{one, times}
use Rattle.turtle_grammar.specs.Terminals.{hex}
use Rattle.turtle_lex.proofs.LocalSteps.{local_percent, dot_percent, local_backslash, dot_backslash, part_more, part_within, part_not}
use Rattle.turtle_lex.proofs.local.part_end.Goals as goal

pub returns-then-is_local_char : goal.returns-then-is_local_char
returns-then-is_local_char c =
    part_more c.args.text.now c.args.at c.args.c c.args.next c.requires.place c.requires.reads (sym c.if-is_local_char.ensures)

pub returns-then-c-eq37 : goal.returns-then-c-eq37
returns-then-c-eq37 c =
    part_within (times 2 hex) c.args.text.now c.args.at c.args.c 37 c.args.next c.digits_end.result c.requires.place c.requires.reads c.if-c-eq37.true local_percent dot_percent c.digits_end.ensures

pub returns-then-c-eq92 : goal.returns-then-c-eq92
returns-then-c-eq92 c =
    part_within (one is_local_escape) c.args.text.now c.args.at c.args.c 92 c.args.next c.escaped_end.result c.requires.place c.requires.reads c.if-c-eq92.true local_backslash dot_backslash c.escaped_end.ensures

pub returns-else-c-eq92 : goal.returns-else-c-eq92
returns-else-c-eq92 c =
    part_not c.args.text.now c.args.at c.args.c c.args.next c.requires.place c.requires.reads c.requires.no_dot (sym c.if-is_local_char.ensures) c.if-c-eq37.false c.if-c-eq92.false
