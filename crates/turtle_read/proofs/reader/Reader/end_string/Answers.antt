use Rattle.std.proofs.Common.{◌∙◌, [], refl, ap, sym, arith}
use Rattle.triple_store.specs.declared.term.Term.TheVariants as terms
use Rattle.turtle_document.specs.Vocabulary.{xsd_string}
use Rattle.turtle_read.specs.Faults.{leaf_of}
use Rattle.turtle_read.specs.Moves as moves
use Rattle.turtle_read.specs.Readers.{inside}
use Rattle.turtle_read.proofs.Moves as laws
use Rattle.turtle_read.proofs.Stops.{follows_as, residual}
use Rattle.turtle_read.proofs.Bounds.{filled_next, filled_room, next_as, room_as}
use Rattle.turtle_read.proofs.reader.Reader.end_string.Goals as goal

pub returns-then-not-follows-clause-moves : goal.returns-then-not-follows-clause-moves
returns-then-not-follows-clause-moves c = (
  refl,
  laws.string_off c.args.token.kind (leaf_of c.args.token) c.args.text c.args.at c.args.hole c.args.self.now.outer (inside c.args.self.now)
      c.requires.untagged c.requires.untyped (sym c.follows.ensures ∙ c.if-not-follows.true),
)

pub returns-in_err-fill_plain-clause-moves : goal.returns-in_err-fill_plain-clause-moves
returns-in_err-fill_plain-clause-moves c =
    residual c.args.token.at c.from_residual.result c.in_err-fill_plain.field-0.0 _ _ _ c.from_residual.ensures.1
    (laws.stops_as c.args.token.at c.in_err-fill_plain.field-0.0 _ _ (laws.string_on c.args.token.kind (leaf_of c.args.token) c.args.text c.args.at c.args.hole c.args.self.now.outer (inside c.args.self.now) (terms.Literal c.args.text xsd_string [])
    c.requires.untagged c.requires.untyped
    (sym c.follows.ensures ∙ c.if-not-follows.false) refl)
    (laws.stops_going c.args.token.at c.in_err-fill_plain.field-0.0 _ c.args.token.kind (leaf_of c.args.token) (c.in_err-fill_plain.ensures.moves c.args.token.at)))

pub returns-clause-moves : goal.returns-clause-moves
returns-clause-moves c =
    follows_as c.args.token.at c.plain_step.result _ _ _ _ (laws.string_on c.args.token.kind (leaf_of c.args.token) c.args.text c.args.at c.args.hole c.args.self.now.outer (inside c.args.self.now) (terms.Literal c.args.text xsd_string [])
    c.requires.untagged c.requires.untyped
    (sym c.follows.ensures ∙ c.if-not-follows.false) refl
    ∙ ap (λ m. laws.go_on m c.args.token.kind (leaf_of c.args.token)) (c.in_ok-fill_plain.ensures.moves c.args.token.at)
    ∙ ap (λ n. moves.plain_move n c.fill_plain.new.self.outer c.args.token.kind (leaf_of c.args.token) (inside c.fill_plain.new.self)) (sym c.take_next-next.ensures.next)
    ∙ ap (λ s. moves.plain_move c.take_next-next.result s.outer c.args.token.kind (leaf_of c.args.token) (inside s)) (sym c.take_next-next.ensures.rest))
    c.plain_step.ensures.moves

pub plain_step-requires-clause-next : goal.plain_step-requires-clause-next
plain_step-requires-clause-next c = next_as _ _ _ (sym c.take_next-next.ensures.next) (filled_next _ c.args.hole c.args.at (terms.Literal c.args.text xsd_string []) c.args.self.now.outer (inside c.args.self.now) _ _ c.requires.hole (omega arith) (c.in_ok-fill_plain.ensures.moves c.args.token.at))

pub plain_step-requires-clause-room : goal.plain_step-requires-clause-room
plain_step-requires-clause-room c = room_as 2 _ _ (ap inside c.take_next-next.ensures.rest) (filled_room 2 c.args.hole c.args.at (terms.Literal c.args.text xsd_string []) c.args.self.now.outer (inside c.args.self.now) _ _ c.requires.hole (omega arith) (c.in_ok-fill_plain.ensures.moves c.args.token.at) c.requires.room)
