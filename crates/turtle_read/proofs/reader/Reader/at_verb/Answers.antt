use Rattle.std.proofs.Common.{ap, sym, ◌∙◌, Ok}
use Rattle.triple_store.specs.declared.term.Term.TheVariants as terms
use Rattle.turtle_document.specs.Machine.{config}
use Rattle.turtle_document.specs.Machine.Move.{to}
use Rattle.turtle_document.specs.declared.expected.Expected.TheVariants as expect
use Rattle.turtle_read.specs.Faults.{leaf_of}
use Rattle.turtle_read.specs.Moves as moves
use Rattle.turtle_read.specs.Readers.{config_of, inside}
use Rattle.turtle_read.proofs.Moves as laws
use Rattle.turtle_read.proofs.Stops.{stops_from, follows_as, residual}
use Rattle.turtle_read.proofs.reader.Reader.at_verb.Goals as goal

pub returns-in_err-iri-clause-moves : goal.returns-in_err-iri-clause-moves
returns-in_err-iri-clause-moves c =
    residual c.args.token.at c.from_residual.result c.in_err-iri.field-0.0 _ _ _ c.from_residual.ensures.1
    (stops_from c.args.token.at c.in_err-iri.field-0.0 _ _ c.in_err-iri.ensures.value (laws.verb_fault c.args.token.kind (leaf_of c.args.token) c.args.subject c.args.self.now.outer (inside c.args.self.now)))

pub returns-in-Some-clause-moves : goal.returns-in-Some-clause-moves
returns-in-Some-clause-moves c =
    laws.verb_named c.args.token.kind (leaf_of c.args.token) c.args.subject c.args.self.now.outer (inside c.args.self.now) c.in-Some.iri (c.in_ok-iri.ensures.value ∙ ap Ok c.in-Some.is)
    ∙ ap (λ st. to (config (expect.Object c.args.subject (terms.Iri c.in-Some.iri)) c.args.self.now.outer) st) (sym c.in_ok-iri.ensures.state) ∙ ap (λ s. to (config_of s) (inside s)) (sym c.expect.ensures)

pub returns-in-None-clause-moves : goal.returns-in-None-clause-moves
returns-in-None-clause-moves c =
    follows_as c.args.token.at c.at_a.result _ _ _ _ (laws.verb_none c.args.token.kind (leaf_of c.args.token) c.args.subject c.args.self.now.outer (inside c.args.self.now) (c.in_ok-iri.ensures.value ∙ ap Ok c.in-None.is) ∙ ap (λ st. moves.at_a c.args.token.kind c.args.subject c.args.self.now.outer st) (sym c.in_ok-iri.ensures.state)) c.at_a.ensures.moves
