use Rattle.std.proofs.Common.{ℕ, ◌+◌, ◌<◌, sym, ◌∙◌, subst, Ok, Err, arith}
use Rattle.std.proofs.lemmas.Bool.{ne_eqb}
use Rattle.std.proofs.lemmas.Result.{err_from_is_err_and}
use Rattle.turtle_grammar.specs.Pattern.{nothing, many, times, char}
use Rattle.turtle_lex.specs.Scans.{Goes}
use Rattle.turtle_lex.specs.Enclosure.{closing, piece, long_piece, long_body}
use Rattle.turtle_lex.specs.declared.stop.Stop.TheVariants.{Unclosed}
use Rattle.turtle_lex.proofs.Opened.{inside, goes_one, goes_on, stops_after, stops_end}
use Rattle.turtle_lex.proofs.Bodies.{leads_first, end_here, long_frame, long_step, long_quote, long_close, long_full, long_live}
use Rattle.turtle_lex.proofs.enclosed.long_body_end.Goals as goal

pub returns-then-quotes-eq2 : goal.returns-then-quotes-eq2
returns-then-quotes-eq2 c =
    let P : ℕ → Type 0 = λ n. Goes (long_body c.args.enclosure 0) (long_body c.args.enclosure n) c.args.text.now c.args.from c.loop-c.at in
    let there = subst P c.if-quotes-eq2.true c.loop-c.invariant.1 in
    goes_on c.args.text.now c.args.from c.loop-c.at c.in-Some.next (long_body c.args.enclosure 0) (long_body c.args.enclosure 2) nothing there (goes_one c.args.text.now c.loop-c.at c.in-Some.c c.in-Some.next (long_body c.args.enclosure 2) nothing c.in-Some.ensures (long_close c.args.enclosure c.in-Some.c (c.if-c-closing.true ∙ c.closing.ensures)) (long_full c.args.enclosure 2))

pub loop-c-preserved-then-c-closing : goal.loop-c-preserved-then-c-closing
loop-c-preserved-then-c-closing c =
    let fewer : c.loop-c.quotes < 2 = omega (arith, c.loop-c.invariant.0, c.if-quotes-eq2.false) in
    (omega arith, goes_on c.args.text.now c.args.from c.loop-c.at c.in-Some.next (long_body c.args.enclosure 0) (long_body c.args.enclosure c.loop-c.quotes) (long_body c.args.enclosure (c.loop-c.quotes + 1)) c.loop-c.invariant.1 (goes_one c.args.text.now c.loop-c.at c.in-Some.c c.in-Some.next (long_body c.args.enclosure c.loop-c.quotes) (long_body c.args.enclosure (c.loop-c.quotes + 1)) c.in-Some.ensures (long_quote c.args.enclosure c.loop-c.quotes c.in-Some.c fewer (c.if-c-closing.true ∙ c.closing.ensures)) (long_full c.args.enclosure c.loop-c.quotes)))

pub returns-in_err-upto : goal.returns-in_err-upto
returns-in_err-upto c =
    let p = err_from_is_err_and c.from_residual.result c.from_residual.ensures.1 in
    rw (p.1, p.2) (stops_after c.args.text.now c.args.from c.loop-c.at (long_body c.args.enclosure 0) (long_body c.args.enclosure c.loop-c.quotes) c.in_err-upto.field-0.0 c.loop-c.invariant.1 (leads_first c.args.text.now c.loop-c.at c.in-Some.c c.in-Some.next (long_body c.args.enclosure c.loop-c.quotes) (inside (many (long_piece c.args.enclosure)) (times 3 (char (closing c.args.enclosure))) (piece c.args.enclosure)) (long_body c.args.enclosure 0) (Err c.in_err-upto.field-0.0) c.in-Some.ensures (long_step c.args.enclosure c.loop-c.quotes c.in-Some.c (ne_eqb c.in-Some.c (closing c.args.enclosure) (λ e. c.if-c-closing.false (e ∙ sym c.closing.ensures)))) (long_full c.args.enclosure c.loop-c.quotes) ((long_frame c.args.enclosure).full (piece c.args.enclosure)) (long_live c.args.enclosure c.loop-c.quotes) (c.in_err-upto.ensures.inside (inside (many (long_piece c.args.enclosure)) (times 3 (char (closing c.args.enclosure)))) (long_frame c.args.enclosure))))

pub loop-c-smaller : goal.loop-c-smaller
loop-c-smaller c =
    omega (arith, c.in_ok-upto.ensures.further, c.plain_end-at-else-c-closing.ensures.long.further, c.plain_end-at-else-c-closing.ensures.long.place.inside)

pub loop-c-preserved : goal.loop-c-preserved
loop-c-preserved c =
    (omega arith, goes_on c.args.text.now c.args.from c.in_ok-upto.upto c.plain_end-at-else-c-closing.result (long_body c.args.enclosure 0) (long_body c.args.enclosure 0) (long_body c.args.enclosure 0) (goes_on c.args.text.now c.args.from c.loop-c.at c.in_ok-upto.upto (long_body c.args.enclosure 0) (long_body c.args.enclosure c.loop-c.quotes) (long_body c.args.enclosure 0) c.loop-c.invariant.1 (leads_first c.args.text.now c.loop-c.at c.in-Some.c c.in-Some.next (long_body c.args.enclosure c.loop-c.quotes) (inside (many (long_piece c.args.enclosure)) (times 3 (char (closing c.args.enclosure))) (piece c.args.enclosure)) (long_body c.args.enclosure 0) (Ok c.in_ok-upto.upto) c.in-Some.ensures (long_step c.args.enclosure c.loop-c.quotes c.in-Some.c (ne_eqb c.in-Some.c (closing c.args.enclosure) (λ e. c.if-c-closing.false (e ∙ sym c.closing.ensures)))) (long_full c.args.enclosure c.loop-c.quotes) ((long_frame c.args.enclosure).full (piece c.args.enclosure)) (long_live c.args.enclosure c.loop-c.quotes) (c.in_ok-upto.ensures.inside (inside (many (long_piece c.args.enclosure)) (times 3 (char (closing c.args.enclosure)))) (long_frame c.args.enclosure)))) c.plain_end-at-else-c-closing.ensures.long)

pub returns : goal.returns
returns c =
    stops_after c.args.text.now c.args.from c.loop-c.at (long_body c.args.enclosure 0) (long_body c.args.enclosure c.loop-c.quotes) Unclosed c.loop-c.invariant.1 (stops_end c.args.text.now c.loop-c.at (long_body c.args.enclosure c.loop-c.quotes) (end_here c.args.text.now c.loop-c.at c.char_at.result c.in_default.not-Some c.char_at.ensures) (long_full c.args.enclosure c.loop-c.quotes) (long_live c.args.enclosure c.loop-c.quotes))
