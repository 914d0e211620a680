use Rattle.std.proofs.Common.{ap, sym, ◌∙◌, arith}
use Rattle.triple_store.specs.declared.term.Term.TheVariants as terms
use Rattle.turtle_document.specs.Vocabulary.{rdf_nil}
use Rattle.turtle_read.specs.Moves as moves
use Rattle.turtle_read.specs.Readers.{inside}
use Rattle.turtle_read.proofs.Moves as laws
use Rattle.turtle_read.proofs.Stops.{gives_as}
use Rattle.turtle_read.proofs.Bounds.{chain_as, iri_below}
use Rattle.turtle_read.proofs.reader.Reader.end_chain.Goals as goal

pub returns-in_default-clause-value : goal.returns-in_default-clause-value
returns-in_default-clause-value c =
    ap (λ x. moves.ended x c.args.at (inside c.args.self.now)) c.in_default.is ∙ laws.end_none c.args.at (inside c.args.self.now)

pub returns-clause-value : goal.returns-clause-value
returns-clause-value c =
    gives_as _ c.add.result _ _
    (ap (λ x. moves.ended x c.args.at (inside c.args.self.now)) c.in-Nodes.is ∙ laws.end_last c.in-Nodes.first c.in-Nodes.last c.args.at (inside c.args.self.now)
    ∙ ap (λ p. moves.add c.args.at (terms.Blank c.in-Nodes.last) p (terms.Iri rdf_nil) (inside c.args.self.now)) (sym c.in_ok-rest.ensures) ∙ ap (λ o. moves.add c.args.at (terms.Blank c.in-Nodes.last) c.in_ok-rest.rest o (inside c.args.self.now)) (sym c.in_ok-nil.ensures))
    c.add.ensures.value

pub add-requires-clause-s : goal.add-requires-clause-s
add-requires-clause-s c = let h = chain_as _ c.args.chain _ c.in-Nodes.is c.requires.chain in omega (arith, h.1)

pub add-requires-clause-p : goal.add-requires-clause-p
add-requires-clause-p c = iri_below _ _ _ c.in_ok-rest.ensures

pub add-requires-clause-o : goal.add-requires-clause-o
add-requires-clause-o c = iri_below _ _ _ c.in_ok-nil.ensures
