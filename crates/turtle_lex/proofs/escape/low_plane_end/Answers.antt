use Rattle.std.proofs.Common.{refl, sym}
use Rattle.std.proofs.lemmas.Bool.{ne_eqb}
use Rattle.turtle_grammar.specs.Pattern.{times}
use Rattle.turtle_grammar.specs.Terminals.{hex, short_code}
use Rattle.turtle_lex.specs.Enclosure.{low_plane_code}
use Rattle.turtle_lex.proofs.Inside.{inside_step, inside_wrong, inside_end}
use Rattle.turtle_lex.proofs.Codes.{low_after_zero, low_after_hex, low_after_other, low_live}
use Rattle.turtle_lex.proofs.escape.low_plane_end.Goals as goal

pub returns-in-None-clause-inside : goal.returns-in-None-clause-inside
returns-in-None-clause-inside c =
    inside_end c.args.text.now c.args.at low_plane_code c.in-None.ensures low_live

pub returns-then-c-eq48-clause-inside : goal.returns-then-c-eq48-clause-inside
returns-then-c-eq48-clause-inside c =
    inside_step c.args.text.now c.args.at c.in-Some.c c.in-Some.next low_plane_code short_code c.short_code_end.result c.in-Some.ensures (low_after_zero c.in-Some.c c.if-c-eq48.true) refl c.short_code_end.ensures.inside

pub returns-then-is_hex-clause-inside : goal.returns-then-is_hex-clause-inside
returns-then-is_hex-clause-inside c =
    inside_step c.args.text.now c.args.at c.in-Some.c c.in-Some.next low_plane_code (times 4 hex) c.hex_run_end.result c.in-Some.ensures (low_after_hex c.in-Some.c (ne_eqb c.in-Some.c 48 c.if-c-eq48.false) (sym c.if-is_hex.ensures)) refl c.hex_run_end.ensures.inside

pub returns-else-is_hex-clause-inside : goal.returns-else-is_hex-clause-inside
returns-else-is_hex-clause-inside c =
    inside_wrong c.args.text.now c.args.at c.in-Some.c c.in-Some.next low_plane_code c.requires c.in-Some.ensures (low_after_other c.in-Some.c (ne_eqb c.in-Some.c 48 c.if-c-eq48.false) (sym c.if-is_hex.ensures)) refl low_live
