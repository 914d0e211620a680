use Rattle.std.proofs.Common.{refl, sym, Err}
use Rattle.std.proofs.lemmas.Result.{err_from_is_err_and}
use Rattle.turtle_grammar.specs.Pattern.{one, ◌then◌, times}
use Rattle.turtle_grammar.specs.Characters.{within}
use Rattle.turtle_grammar.specs.Terminals.{hex, short_code}
use Rattle.turtle_lex.proofs.Inside.{inside_step, inside_wrong, inside_end, inside_then, inside_stop}
use Rattle.turtle_lex.proofs.Codes.{hexes_live, short_after_d, short_after_hex, short_after_other, short_live}
use Rattle.turtle_lex.proofs.escape.short_code_end.Goals as goal

pub returns-in-None-clause-inside : goal.returns-in-None-clause-inside
returns-in-None-clause-inside c =
    inside_end c.args.text.now c.args.at short_code c.in-None.ensures short_live

pub returns-then-is_hex_but_d-clause-inside : goal.returns-then-is_hex_but_d-clause-inside
returns-then-is_hex_but_d-clause-inside c =
    inside_step c.args.text.now c.args.at c.in-Some.c c.in-Some.next short_code (times 3 hex) c.hex_run_end.result c.in-Some.ensures (short_after_hex c.in-Some.c (sym c.if-is_hex_but_d.ensures)) refl c.hex_run_end.ensures.inside

pub returns-in_ok-third-in-Some-clause-inside : goal.returns-in_ok-third-in-Some-clause-inside
returns-in_ok-third-in-Some-clause-inside c =
    inside_step c.args.text.now c.args.at c.in-Some.c c.in-Some.next short_code (one (within 48 55) then times 2 hex) c.hex_run_end-then-is_d.result c.in-Some.ensures (short_after_d c.in-Some.c (sym c.if-is_hex_but_d.ensures) (sym c.if-is_d.ensures)) refl
    (inside_then c.args.text.now c.in-Some.next c.in_ok-third-in-Some.third (one (within 48 55)) (times 2 hex) c.hex_run_end-then-is_d.result c.in_ok-third-in-Some.ensures.inside c.hex_run_end-then-is_d.ensures.inside (hexes_live 2))

pub returns-in_err-third-in-Some-clause-inside : goal.returns-in_err-third-in-Some-clause-inside
returns-in_err-third-in-Some-clause-inside c =
    let p = err_from_is_err_and c.from_residual.result c.from_residual.ensures.1 in
    rw (p.1, p.2) (inside_step c.args.text.now c.args.at c.in-Some.c c.in-Some.next short_code (one (within 48 55) then times 2 hex) (Err c.in_err-third-in-Some.field-0.0) c.in-Some.ensures (short_after_d c.in-Some.c (sym c.if-is_hex_but_d.ensures) (sym c.if-is_d.ensures)) refl (inside_stop c.args.text.now c.in-Some.next (one (within 48 55)) (times 2 hex) c.in_err-third-in-Some.field-0.0 c.in_err-third-in-Some.ensures.inside (hexes_live 2)))

pub returns-else-is_d-clause-inside : goal.returns-else-is_d-clause-inside
returns-else-is_d-clause-inside c =
    inside_wrong c.args.text.now c.args.at c.in-Some.c c.in-Some.next short_code c.requires c.in-Some.ensures (short_after_other c.in-Some.c (sym c.if-is_hex_but_d.ensures) (sym c.if-is_d.ensures)) refl short_live
