use Rattle.std.proofs.Common.{ap, sym, ◌∙◌, Ok}
use Rattle.triple_store.specs.declared.term.Term.TheVariants as terms
use Rattle.turtle_read.specs.Faults.{leaf_of}
use Rattle.turtle_read.specs.Moves as moves
use Rattle.turtle_read.specs.Readers.{inside}
use Rattle.turtle_read.proofs.Moves as laws
use Rattle.turtle_read.proofs.Stops.{stops_from, follows_as, residual}
use Rattle.turtle_read.proofs.Bounds.{room_as}
use Rattle.turtle_read.proofs.reader.Reader.begin_resource.Goals as goal

pub returns-in_err-iri-clause-moves : goal.returns-in_err-iri-clause-moves
returns-in_err-iri-clause-moves c =
    residual c.args.token.at c.from_residual.result c.in_err-iri.field-0.0 _ _ _ c.from_residual.ensures.1
    (stops_from c.args.token.at c.in_err-iri.field-0.0 _ _ c.in_err-iri.ensures.value (laws.resource_fault c.args.token.kind c.args.hole (leaf_of c.args.token) c.args.self.now.outer (inside c.args.self.now)))

pub returns-in-Some-clause-moves : goal.returns-in-Some-clause-moves
returns-in-Some-clause-moves c =
    follows_as c.args.token.at c.fill.result _ _ _ _ (laws.resource_named c.args.token.kind c.args.hole (leaf_of c.args.token) c.args.self.now.outer (inside c.args.self.now) c.in-Some.iri (c.in_ok-iri.ensures.value ∙ ap Ok c.in-Some.is)
    ∙ ap (λ st. moves.filled c.args.hole c.args.token.at (terms.Iri c.in-Some.iri) c.args.self.now.outer st) (sym c.in_ok-iri.ensures.state)) (c.fill.ensures.moves c.args.token.at)

pub returns-in-None-clause-moves : goal.returns-in-None-clause-moves
returns-in-None-clause-moves c =
    follows_as c.args.token.at c.begin_node.result _ _ _ _ (laws.resource_none c.args.token.kind c.args.hole (leaf_of c.args.token) c.args.self.now.outer (inside c.args.self.now) (c.in_ok-iri.ensures.value ∙ ap Ok c.in-None.is)
    ∙ ap (λ st. moves.begin_node c.args.token.kind c.args.hole (leaf_of c.args.token) c.args.self.now.outer st) (sym c.in_ok-iri.ensures.state)) c.begin_node.ensures.moves

pub begin_node-requires-clause-room : goal.begin_node-requires-clause-room
begin_node-requires-clause-room c = room_as 1 _ _ c.in_ok-iri.ensures.state c.requires.room
