use Rattle.std.proofs.Common.{ap, sym, ◌∙◌}
use Rattle.turtle_document.specs.Machine.{config}
use Rattle.turtle_read.specs.Faults.{leaf_of}
use Rattle.turtle_read.specs.Moves as moves
use Rattle.turtle_read.specs.Readers.{inside}
use Rattle.turtle_read.specs.declared.reader.Reader.{Reader}
use Rattle.turtle_read.proofs.Moves as laws
use Rattle.turtle_read.proofs.Stops.{follows_as}
use Rattle.turtle_read.proofs.Bounds.{room_as, next_as}
use Rattle.turtle_read.proofs.reader.Reader.step.Goals as goal

pub returns-in-Suffix-clause-moves : goal.returns-in-Suffix-clause-moves
returns-in-Suffix-clause-moves c =
    follows_as c.args.token.at c.after_string.result _ _ _ _
    (ap (λ e. moves.move (config e c.args.self.now.outer) c.args.token.kind (leaf_of c.args.token) (inside c.args.self.now)) (sym c.take_next.ensures.next ∙ c.in-Suffix.is)
    ∙ laws.move_string c.in-Suffix.text c.in-Suffix.at c.in-Suffix.hole c.args.self.now.outer c.args.token.kind (leaf_of c.args.token) (inside c.args.self.now)
    ∙ ap (λ (r : Reader). moves.after_string c.args.token.kind (leaf_of c.args.token) c.in-Suffix.text c.in-Suffix.at c.in-Suffix.hole r.outer (inside r)) (sym c.take_next.ensures.rest))
    c.after_string.ensures.moves

pub returns-in_default-clause-moves : goal.returns-in_default-clause-moves
returns-in_default-clause-moves c =
    follows_as c.args.token.at c.plain_step.result _ _ _ _
    (ap (λ e. moves.move (config e c.args.self.now.outer) c.args.token.kind (leaf_of c.args.token) (inside c.args.self.now)) (sym c.take_next.ensures.next)
    ∙ laws.move_plain c.take_next.result c.args.self.now.outer c.args.token.kind (leaf_of c.args.token) (inside c.args.self.now) c.in_default.not-Suffix
    ∙ ap (λ (r : Reader). moves.plain_move c.take_next.result r.outer c.args.token.kind (leaf_of c.args.token) (inside r)) (sym c.take_next.ensures.rest))
    c.plain_step.ensures.moves

pub after_string-requires-clause-room : goal.after_string-requires-clause-room
after_string-requires-clause-room c = room_as 2 _ _ (ap (λ (r : Reader). inside r) c.take_next.ensures.rest) c.requires.room

pub after_string-requires-clause-hole : goal.after_string-requires-clause-hole
after_string-requires-clause-hole c = next_as _ _ _ (sym c.take_next.ensures.next ∙ c.in-Suffix.is) c.requires.next

pub plain_step-requires-clause-room : goal.plain_step-requires-clause-room
plain_step-requires-clause-room c = room_as 2 _ _ (ap (λ (r : Reader). inside r) c.take_next.ensures.rest) c.requires.room

pub plain_step-requires-clause-next : goal.plain_step-requires-clause-next
plain_step-requires-clause-next c = next_as _ _ _ (sym c.take_next.ensures.next) c.requires.next
