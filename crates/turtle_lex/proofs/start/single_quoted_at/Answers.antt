use Rattle.std.proofs.lemmas.Result.{err_from_is_err_and}
use Rattle.turtle_grammar.specs.Pattern.{nothing}
use Rattle.turtle_grammar.specs.Terminals.{pattern}
use Rattle.turtle_grammar.specs.declared.token.TokenKind.TheVariants.{SingleString, LongSingleString}
use Rattle.turtle_lex.specs.Enclosure.{body, long_body}
use Rattle.turtle_lex.specs.declared.enclosure.Enclosure.TheVariants as enclosures
use Rattle.turtle_lex.proofs.Opened.{goes_on, stops_after}
use Rattle.turtle_lex.proofs.Assembly.{finds_closed, finds_stop, opened_single, opened_long_single, single_goes, long_single_goes}
use Rattle.turtle_lex.proofs.start.single_quoted_at.Goals as goal

pub returns-in_ok-upto-in-None : goal.returns-in_ok-upto-in-None
returns-in_ok-upto-in-None c =
    finds_closed SingleString c.args.text.now c.args.at c.in_ok-upto-in-None.upto c.requires.place (opened_single c.args.text.now c.args.at c.args.next c.requires.reads c.in-None.ensures) (goes_on c.args.text.now c.args.at c.args.next c.in_ok-upto-in-None.upto (pattern SingleString) (body enclosures.Single) nothing (single_goes c.args.text.now c.args.at c.args.next c.requires.reads) c.in_ok-upto-in-None.ensures)

pub returns-in_err-upto-in-None : goal.returns-in_err-upto-in-None
returns-in_err-upto-in-None c =
    let p = err_from_is_err_and c.from_residual.result c.from_residual.ensures.1 in
    rw (p.1, p.2) (finds_stop SingleString c.args.text.now c.args.at c.in_err-upto-in-None.field-0.0 c.requires.place (opened_single c.args.text.now c.args.at c.args.next c.requires.reads c.in-None.ensures) (stops_after c.args.text.now c.args.at c.args.next (pattern SingleString) (body enclosures.Single) c.in_err-upto-in-None.field-0.0 (single_goes c.args.text.now c.args.at c.args.next c.requires.reads) c.in_err-upto-in-None.ensures))

pub returns-in_ok-upto-in-Some : goal.returns-in_ok-upto-in-Some
returns-in_ok-upto-in-Some c =
    finds_closed LongSingleString c.args.text.now c.args.at c.in_ok-upto-in-Some.upto c.requires.place (opened_long_single c.args.text.now c.args.at c.args.next c.in-Some.ensures.0 c.in-Some.inside c.requires.reads c.in-Some.ensures.1 c.in-Some.ensures.2) (goes_on c.args.text.now c.args.at c.in-Some.inside c.in_ok-upto-in-Some.upto (pattern LongSingleString) (long_body enclosures.LongSingle 0) nothing (long_single_goes c.args.text.now c.args.at c.args.next c.in-Some.ensures.0 c.in-Some.inside c.requires.reads c.in-Some.ensures.1 c.in-Some.ensures.2) c.in_ok-upto-in-Some.ensures)

pub returns-in_err-upto-in-Some : goal.returns-in_err-upto-in-Some
returns-in_err-upto-in-Some c =
    let p = err_from_is_err_and c.from_residual-in_err-upto-in-Some.result c.from_residual-in_err-upto-in-Some.ensures.1 in
    rw (p.1, p.2) (finds_stop LongSingleString c.args.text.now c.args.at c.in_err-upto-in-Some.field-0.0 c.requires.place (opened_long_single c.args.text.now c.args.at c.args.next c.in-Some.ensures.0 c.in-Some.inside c.requires.reads c.in-Some.ensures.1 c.in-Some.ensures.2) (stops_after c.args.text.now c.args.at c.in-Some.inside (pattern LongSingleString) (long_body enclosures.LongSingle 0) c.in_err-upto-in-Some.field-0.0 (long_single_goes c.args.text.now c.args.at c.args.next c.in-Some.ensures.0 c.in-Some.inside c.requires.reads c.in-Some.ensures.1 c.in-Some.ensures.2) c.in_err-upto-in-Some.ensures))
