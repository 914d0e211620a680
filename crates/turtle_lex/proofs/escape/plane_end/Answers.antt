use Rattle.std.proofs.Common.{refl, Err}
use Rattle.std.proofs.lemmas.Bool.{ne_eqb}
use Rattle.std.proofs.lemmas.Result.{err_from_is_err_and}
use Rattle.turtle_grammar.specs.Pattern.{◌then◌, times, char}
use Rattle.turtle_grammar.specs.Terminals.{hex}
use Rattle.turtle_lex.specs.Enclosure.{low_plane_code, plane_code}
use Rattle.turtle_lex.proofs.Inside.{inside_step, inside_wrong, inside_end, inside_then, inside_stop}
use Rattle.turtle_lex.proofs.Codes.{hexes_live, plane_after_one, plane_after_zero, plane_after_other, plane_live}
use Rattle.turtle_lex.proofs.escape.plane_end.Goals as goal

pub returns-in-None-clause-inside : goal.returns-in-None-clause-inside
returns-in-None-clause-inside c =
    inside_end c.args.text.now c.args.at plane_code c.in-None.ensures plane_live

pub returns-in_ok-fifth-in-Some-clause-inside : goal.returns-in_ok-fifth-in-Some-clause-inside
returns-in_ok-fifth-in-Some-clause-inside c =
    inside_step c.args.text.now c.args.at c.in-Some.c c.in-Some.next plane_code (char 48 then times 4 hex) c.hex_run_end.result c.in-Some.ensures (plane_after_one c.in-Some.c c.if-c-eq49.true) refl
    (inside_then c.args.text.now c.in-Some.next c.in_ok-fifth-in-Some.fifth (char 48) (times 4 hex) c.hex_run_end.result c.in_ok-fifth-in-Some.ensures.inside c.hex_run_end.ensures.inside (hexes_live 4))

pub returns-in_err-fifth-in-Some-clause-inside : goal.returns-in_err-fifth-in-Some-clause-inside
returns-in_err-fifth-in-Some-clause-inside c =
    let p = err_from_is_err_and c.from_residual.result c.from_residual.ensures.1 in
    rw (p.1, p.2) (inside_step c.args.text.now c.args.at c.in-Some.c c.in-Some.next plane_code (char 48 then times 4 hex) (Err c.in_err-fifth-in-Some.field-0.0) c.in-Some.ensures (plane_after_one c.in-Some.c c.if-c-eq49.true) refl (inside_stop c.args.text.now c.in-Some.next (char 48) (times 4 hex) c.in_err-fifth-in-Some.field-0.0 c.in_err-fifth-in-Some.ensures.inside (hexes_live 4)))

pub returns-then-c-eq48-clause-inside : goal.returns-then-c-eq48-clause-inside
returns-then-c-eq48-clause-inside c =
    inside_step c.args.text.now c.args.at c.in-Some.c c.in-Some.next plane_code low_plane_code c.low_plane_end.result c.in-Some.ensures (plane_after_zero c.in-Some.c c.if-c-eq48.true) refl c.low_plane_end.ensures.inside

pub returns-else-c-eq48-clause-inside : goal.returns-else-c-eq48-clause-inside
returns-else-c-eq48-clause-inside c =
    inside_wrong c.args.text.now c.args.at c.in-Some.c c.in-Some.next plane_code c.requires c.in-Some.ensures (plane_after_other c.in-Some.c (ne_eqb c.in-Some.c 49 c.if-c-eq49.false) (ne_eqb c.in-Some.c 48 c.if-c-eq48.false)) refl plane_live
