use Rattle.std.proofs.Common.{ap, sym, ◌∙◌}
use Rattle.turtle_document.specs.Machine.Move.{to}
use Rattle.turtle_read.specs.Moves.{filled}
use Rattle.turtle_read.specs.Readers.{config_of, inside}
use Rattle.turtle_read.proofs.Moves.{filled_subject, filled_listed}
use Rattle.turtle_read.proofs.Stops.{follows_as}
use Rattle.turtle_read.proofs.Bounds.{hole_as}
use Rattle.turtle_read.proofs.reader.Reader.fill.Goals as goal

pub returns-in-Subject-clause-moves : goal.returns-in-Subject-clause-moves
returns-in-Subject-clause-moves c = λ at.
    ap (λ h. filled h c.args.at c.args.term c.args.self.now.outer (inside c.args.self.now)) c.in-Subject.is
    ∙ filled_subject c.args.at c.args.term c.args.self.now.outer (inside c.args.self.now) ∙ ap (λ s. to (config_of s) (inside s)) (sym c.expect.ensures)

pub returns-in-ListedSubject-clause-moves : goal.returns-in-ListedSubject-clause-moves
returns-in-ListedSubject-clause-moves c = λ at.
    ap (λ h. filled h c.args.at c.args.term c.args.self.now.outer (inside c.args.self.now)) c.in-ListedSubject.is
    ∙ filled_listed c.args.at c.args.term c.args.self.now.outer (inside c.args.self.now) ∙ ap (λ s. to (config_of s) (inside s)) (sym c.expect-in-ListedSubject.ensures)

pub returns-in-Object-clause-moves : goal.returns-in-Object-clause-moves
returns-in-Object-clause-moves c = λ at.
    follows_as at c.add_object.result _ _ _ _ (ap (λ h. filled h c.args.at c.args.term c.args.self.now.outer (inside c.args.self.now)) c.in-Object.is) (c.add_object.ensures.moves at)

pub returns-in-Item-clause-moves : goal.returns-in-Item-clause-moves
returns-in-Item-clause-moves c = λ at.
    follows_as at c.add_item.result _ _ _ _ (ap (λ h. filled h c.args.at c.args.term c.args.self.now.outer (inside c.args.self.now)) c.in-Item.is) (c.add_item.ensures.moves at)

pub add_object-requires-clause-subject : goal.add_object-requires-clause-subject
add_object-requires-clause-subject c = (hole_as _ c.args.hole _ c.in-Object.is c.requires.hole).0

pub add_object-requires-clause-predicate : goal.add_object-requires-clause-predicate
add_object-requires-clause-predicate c = (hole_as _ c.args.hole _ c.in-Object.is c.requires.hole).1

pub add_item-requires-clause-node : goal.add_item-requires-clause-node
add_item-requires-clause-node c = (hole_as _ c.args.hole _ c.in-Item.is c.requires.hole).1
