use Rattle.std.proofs.Common.{refl, sym, ◌∙◌, Ok, Err, arith}
use Rattle.std.proofs.lemmas.Bool.{ne_eqb}
use Rattle.std.proofs.lemmas.Result.{err_from_is_err_and}
use Rattle.turtle_grammar.specs.Pattern.{nothing, many, char}
use Rattle.turtle_lex.specs.Enclosure.{closing, piece, body}
use Rattle.turtle_lex.specs.declared.stop.Stop.TheVariants.{Unclosed}
use Rattle.turtle_lex.proofs.Opened.{inside, goes_one, goes_on, stops_after, stops_end}
use Rattle.turtle_lex.proofs.Bodies.{leads_first, short_frame, body_live, end_here, body_piece, body_close}
use Rattle.turtle_lex.proofs.enclosed.body_end.Goals as goal

pub returns-then-c-closing : goal.returns-then-c-closing
returns-then-c-closing c =
    goes_on c.args.text.now c.args.from c.loop-c.at c.in-Some.next (body c.args.enclosure) (body c.args.enclosure) nothing c.loop-c.invariant (goes_one c.args.text.now c.loop-c.at c.in-Some.c c.in-Some.next (body c.args.enclosure) nothing c.in-Some.ensures (body_close c.args.enclosure c.in-Some.c (c.if-c-closing.true ∙ c.closing.ensures)) refl)

pub returns-in_err-upto : goal.returns-in_err-upto
returns-in_err-upto c =
    let p = err_from_is_err_and c.from_residual.result c.from_residual.ensures.1 in
    rw (p.1, p.2) (stops_after c.args.text.now c.args.from c.loop-c.at (body c.args.enclosure) (body c.args.enclosure) c.in_err-upto.field-0.0 c.loop-c.invariant (leads_first c.args.text.now c.loop-c.at c.in-Some.c c.in-Some.next (body c.args.enclosure) (inside (many (piece c.args.enclosure)) (char (closing c.args.enclosure)) (piece c.args.enclosure)) (body c.args.enclosure) (Err c.in_err-upto.field-0.0) c.in-Some.ensures (body_piece c.args.enclosure c.in-Some.c (ne_eqb c.in-Some.c (closing c.args.enclosure) (λ e. c.if-c-closing.false (e ∙ sym c.closing.ensures)))) refl ((short_frame c.args.enclosure).full (piece c.args.enclosure)) (body_live c.args.enclosure) (c.in_err-upto.ensures.inside (inside (many (piece c.args.enclosure)) (char (closing c.args.enclosure))) (short_frame c.args.enclosure))))

pub loop-c-smaller : goal.loop-c-smaller
loop-c-smaller c =
    omega (arith, c.in_ok-upto.ensures.further, c.plain_end-at-in-Some.ensures.short.further, c.plain_end-at-in-Some.ensures.short.place.inside)

pub loop-c-preserved : goal.loop-c-preserved
loop-c-preserved c =
    goes_on c.args.text.now c.args.from c.in_ok-upto.upto c.plain_end-at-in-Some.result (body c.args.enclosure) (body c.args.enclosure) (body c.args.enclosure) (goes_on c.args.text.now c.args.from c.loop-c.at c.in_ok-upto.upto (body c.args.enclosure) (body c.args.enclosure) (body c.args.enclosure) c.loop-c.invariant (leads_first c.args.text.now c.loop-c.at c.in-Some.c c.in-Some.next (body c.args.enclosure) (inside (many (piece c.args.enclosure)) (char (closing c.args.enclosure)) (piece c.args.enclosure)) (body c.args.enclosure) (Ok c.in_ok-upto.upto) c.in-Some.ensures (body_piece c.args.enclosure c.in-Some.c (ne_eqb c.in-Some.c (closing c.args.enclosure) (λ e. c.if-c-closing.false (e ∙ sym c.closing.ensures)))) refl ((short_frame c.args.enclosure).full (piece c.args.enclosure)) (body_live c.args.enclosure) (c.in_ok-upto.ensures.inside (inside (many (piece c.args.enclosure)) (char (closing c.args.enclosure))) (short_frame c.args.enclosure)))) c.plain_end-at-in-Some.ensures.short

pub returns : goal.returns
returns c =
    stops_after c.args.text.now c.args.from c.loop-c.at (body c.args.enclosure) (body c.args.enclosure) Unclosed c.loop-c.invariant (stops_end c.args.text.now c.loop-c.at (body c.args.enclosure) (end_here c.args.text.now c.loop-c.at c.char_at.result c.in_default.not-Some c.char_at.ensures) refl (body_live c.args.enclosure))
