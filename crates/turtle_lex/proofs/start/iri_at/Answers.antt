use Rattle.std.proofs.lemmas.Result.{err_from_is_err_and}
use Rattle.turtle_grammar.specs.Pattern.{nothing}
use Rattle.turtle_grammar.specs.Terminals.{pattern}
use Rattle.turtle_grammar.specs.declared.token.TokenKind.TheVariants.{Iri}
use Rattle.turtle_lex.specs.Enclosure.{body}
use Rattle.turtle_lex.specs.declared.enclosure.Enclosure.TheVariants as enclosures
use Rattle.turtle_lex.proofs.Opened.{goes_on, stops_after}
use Rattle.turtle_lex.proofs.Assembly.{finds_closed, finds_stop, opened_angle, iri_goes}
use Rattle.turtle_lex.proofs.start.iri_at.Goals as goal

pub returns : goal.returns
returns c =
    finds_closed Iri c.args.text.now c.args.at c.in_ok-upto.upto c.requires.place (opened_angle c.args.text.now c.args.at c.args.next c.requires.reads) (goes_on c.args.text.now c.args.at c.args.next c.in_ok-upto.upto (pattern Iri) (body enclosures.Angle) nothing (iri_goes c.args.text.now c.args.at c.args.next c.requires.reads) c.in_ok-upto.ensures)

pub returns-in_err-upto : goal.returns-in_err-upto
returns-in_err-upto c =
    let p = err_from_is_err_and c.from_residual.result c.from_residual.ensures.1 in
    rw (p.1, p.2) (finds_stop Iri c.args.text.now c.args.at c.in_err-upto.field-0.0 c.requires.place (opened_angle c.args.text.now c.args.at c.args.next c.requires.reads) (stops_after c.args.text.now c.args.at c.args.next (pattern Iri) (body enclosures.Angle) c.in_err-upto.field-0.0 (iri_goes c.args.text.now c.args.at c.args.next c.requires.reads) c.in_err-upto.ensures))
