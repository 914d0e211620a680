use Rattle.std.proofs.Common.{sym}
use Rattle.std.proofs.lemmas.Bool.{ne_eqb}
use Rattle.turtle_lex.specs.Enclosure.{escape_rest, piece}
use Rattle.turtle_lex.proofs.Inside.{inside_step, inside_last, inside_wrong}
use Rattle.turtle_lex.proofs.Bodies.{piece_plain, piece_escape, piece_wrong, piece_full, piece_live, further_inside}
use Rattle.turtle_lex.proofs.enclosed.piece_end.Goals as goal

pub returns-then-is_plain-clause-inside : goal.returns-then-is_plain-clause-inside
returns-then-is_plain-clause-inside c =
    inside_last c.args.text.now c.args.at c.args.c c.args.next (piece c.args.enclosure) c.requires.reads (piece_plain c.args.enclosure c.args.c (sym c.if-is_plain.ensures)) (piece_full c.args.enclosure)

pub returns-then-c-eq92-clause-inside : goal.returns-then-c-eq92-clause-inside
returns-then-c-eq92-clause-inside c =
    inside_step c.args.text.now c.args.at c.args.c c.args.next (piece c.args.enclosure) (escape_rest c.args.enclosure) c.escape_end.result c.requires.reads (piece_escape c.args.enclosure c.args.c (sym c.if-is_plain.ensures) c.if-c-eq92.true) (piece_full c.args.enclosure) c.escape_end.ensures.inside

pub returns-else-c-eq92-clause-inside : goal.returns-else-c-eq92-clause-inside
returns-else-c-eq92-clause-inside c =
    inside_wrong c.args.text.now c.args.at c.args.c c.args.next (piece c.args.enclosure) c.requires.place c.requires.reads (piece_wrong c.args.enclosure c.args.c (sym c.if-is_plain.ensures) (ne_eqb c.args.c 92 c.if-c-eq92.false)) (piece_full c.args.enclosure) (piece_live c.args.enclosure)

pub returns-then-c-eq92-clause-further : goal.returns-then-c-eq92-clause-further
returns-then-c-eq92-clause-further c =
    further_inside c.args.enclosure c.args.text.now c.args.at c.args.next (escape_rest c.args.enclosure) c.escape_end.result c.requires.reads.further c.escape_end.ensures.inside
