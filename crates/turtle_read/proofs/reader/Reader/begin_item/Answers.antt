use Rattle.std.proofs.Common.{ap, sym, ◌∙◌}
use Rattle.turtle_document.specs.Machine.{Config}
use Rattle.turtle_document.specs.Meaning.{State, numbered}
use Rattle.turtle_document.specs.declared.expected.Hole.TheVariants as holes
use Rattle.turtle_read.specs.Faults.{leaf_of}
use Rattle.turtle_read.specs.Moves as moves
use Rattle.turtle_read.specs.Readers.{inside}
use Rattle.turtle_read.specs.States.{state_of}
use Rattle.turtle_read.proofs.Moves as laws
use Rattle.turtle_read.proofs.Stops.{stops_from, follows_as, residual}
use Rattle.turtle_read.proofs.Bounds.{room_as, numbered_room, linked_room}
use Rattle.turtle_read.proofs.reader.Reader.begin_item.Goals as goal

pub returns-in_err-may_start-clause-moves : goal.returns-in_err-may_start-clause-moves
returns-in_err-may_start-clause-moves c =
    residual c.args.token.at c.from_residual.result c.in_err-may_start.field-0.0 _ _ _ c.from_residual.ensures.1
    (stops_from c.args.token.at c.in_err-may_start.field-0.0 _ _ c.in_err-may_start.ensures.value
    (laws.item_fault c.args.token.kind (leaf_of c.args.token) c.args.chain c.args.self.now.outer (inside c.args.self.now)))

pub returns-in_err-link-clause-moves : goal.returns-in_err-link-clause-moves
returns-in_err-link-clause-moves c =
    residual c.args.token.at c.from_residual-in_err-link.result c.in_err-link.field-0.0 _ _ _ c.from_residual-in_err-link.ensures.1
    (stops_from c.args.token.at c.in_err-link.field-0.0 _ _ c.in_err-link.ensures.value
    (λ f e. laws.item_link_fault c.args.token.kind (leaf_of c.args.token) c.args.chain c.args.self.now.outer (inside c.args.self.now) (state_of c.number-node.new.self) c.number-node.result f
    c.in_ok-may_start.ensures.value (c.number-node.ensures.number ∙ ap (λ (st : State). st.blanks) c.in_ok-may_start.ensures.state) (c.number-node.ensures.next ∙ ap numbered c.in_ok-may_start.ensures.state) e))

pub returns-clause-moves : goal.returns-clause-moves
returns-clause-moves c =
    follows_as c.args.token.at c.begin_object.result _ _ _ _
    (laws.item_linked c.args.token.kind (leaf_of c.args.token) c.args.chain c.args.self.now.outer (inside c.args.self.now) (state_of c.number-node.new.self) (inside c.link.new.self) c.number-node.result
    c.in_ok-may_start.ensures.value (c.number-node.ensures.number ∙ ap (λ (st : State). st.blanks) c.in_ok-may_start.ensures.state) (c.number-node.ensures.next ∙ ap numbered c.in_ok-may_start.ensures.state) c.in_ok-link.ensures.value
    ∙ ap (λ first. moves.begin_object c.args.token.kind (holes.Item first c.number-node.result) (leaf_of c.args.token) c.args.self.now.outer (inside c.link.new.self)) (sym c.first_of-first.ensures)
    ∙ ap (λ (at : Config). moves.begin_object c.args.token.kind (holes.Item c.first_of-first.result c.number-node.result) (leaf_of c.args.token) at.outer (inside c.link.new.self)) (sym (c.in_ok-link.ensures.same ∙ c.in_ok-may_start.ensures.same)))
    c.begin_object.ensures.moves

pub begin_object-requires-clause-room : goal.begin_object-requires-clause-room
begin_object-requires-clause-room c =
    linked_room 1 c.args.chain c.args.token.at c.number-node.result _ _ c.in_ok-link.ensures.value
    (numbered_room _ _ c.number-node.ensures.next (room_as 2 _ _ c.in_ok-may_start.ensures.state c.requires.room))
