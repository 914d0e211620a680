use Rattle.std.proofs.Common.{true, false, refl, ap, sym, ◌∙◌}
use Rattle.turtle_document.specs.Machine.{Config}
use Rattle.turtle_read.specs.Faults.{leaf_of}
use Rattle.turtle_read.specs.Moves as moves
use Rattle.turtle_read.specs.Readers.{inside}
use Rattle.turtle_read.proofs.Moves as laws
use Rattle.turtle_read.proofs.Stops.{stops_from, follows_as, residual}
use Rattle.turtle_read.proofs.Bounds.{collection_below}
use Rattle.turtle_read.proofs.reader.Reader.in_collection.Goals as goal

pub returns-in_err-end_chain-in-CloseRound-clause-moves : goal.returns-in_err-end_chain-in-CloseRound-clause-moves
returns-in_err-end_chain-in-CloseRound-clause-moves c =
    residual c.args.token.at c.from_residual.result c.in_err-end_chain-in-CloseRound.field-0.0 _ _ _ c.from_residual.ensures.1
    (stops_from c.args.token.at c.in_err-end_chain-in-CloseRound.field-0.0 _ _ c.in_err-end_chain-in-CloseRound.ensures.value
    (λ f e. ap (λ k. moves.in_collection k (leaf_of c.args.token) c.args.chain c.args.self.now.outer (inside c.args.self.now)) c.in-CloseRound.is ∙ laws.collection_fault (leaf_of c.args.token) c.args.chain c.args.self.now.outer (inside c.args.self.now) f e))

pub returns-in_ok-term-in-CloseRound-clause-moves : goal.returns-in_ok-term-in-CloseRound-clause-moves
returns-in_ok-term-in-CloseRound-clause-moves c =
    follows_as c.args.token.at c.close.result _ _ _ _
    (ap (λ k. moves.in_collection k (leaf_of c.args.token) c.args.chain c.args.self.now.outer (inside c.args.self.now)) c.in-CloseRound.is
    ∙ laws.collection_close (leaf_of c.args.token) c.args.chain c.args.self.now.outer (inside c.args.self.now) (inside c.end_chain.new.self) c.in_ok-term-in-CloseRound.term c.in_ok-end_chain-in-CloseRound.ensures.value c.in_ok-term-in-CloseRound.ensures
    ∙ ap (λ (at : Config). moves.closed c.args.token.at c.in_ok-term-in-CloseRound.term at.outer (inside c.end_chain.new.self)) (sym c.in_ok-end_chain-in-CloseRound.ensures.same))
    c.close.ensures.moves

pub returns-then-begins_object-clause-moves : goal.returns-then-begins_object-clause-moves
returns-then-begins_object-clause-moves c =
    follows_as c.args.token.at c.begin_item.result _ _ _ _
    (laws.collection_other c.args.token.kind (leaf_of c.args.token) c.args.chain c.args.self.now.outer (inside c.args.self.now) true c.in_default.not-CloseRound (sym c.begins_object.ensures ∙ c.if-begins_object.true))
    c.begin_item.ensures.moves

pub returns-else-begins_object-clause-moves : goal.returns-else-begins_object-clause-moves
returns-else-begins_object-clause-moves c =
    (refl, laws.collection_other c.args.token.kind (leaf_of c.args.token) c.args.chain c.args.self.now.outer (inside c.args.self.now) false c.in_default.not-CloseRound (sym c.begins_object.ensures ∙ c.if-begins_object.false))

pub close-requires : goal.close-requires
close-requires c = record { term = collection_below _ c.args.chain _ c.in_ok-term-in-CloseRound.ensures c.requires.chain }
