use Rattle.std.proofs.Common.{ap, ◌∙◌}
use Rattle.turtle_read.specs.Faults.{leaf_of}
use Rattle.turtle_read.specs.Moves as moves
use Rattle.turtle_read.specs.Readers.{inside}
use Rattle.turtle_read.proofs.Moves as laws
use Rattle.turtle_read.proofs.Stops.{follows_as}
use Rattle.turtle_read.proofs.Bounds.{next_as, less_room}
use Rattle.turtle_read.proofs.reader.Reader.plain_step.Goals as goal

pub returns-in-Verb-clause-moves : goal.returns-in-Verb-clause-moves
returns-in-Verb-clause-moves c =
    follows_as c.args.token.at c.at_verb.result _ _ _ _
    (ap (λ e. moves.plain_move e c.args.self.now.outer c.args.token.kind (leaf_of c.args.token) (inside c.args.self.now)) c.in-Verb.is ∙ laws.plain_verb c.in-Verb.subject c.args.self.now.outer c.args.token.kind (leaf_of c.args.token) (inside c.args.self.now))
    c.at_verb.ensures.moves

pub returns-in-AfterSemicolon-clause-moves : goal.returns-in-AfterSemicolon-clause-moves
returns-in-AfterSemicolon-clause-moves c =
    follows_as c.args.token.at c.after_semicolon.result _ _ _ _
    (ap (λ e. moves.plain_move e c.args.self.now.outer c.args.token.kind (leaf_of c.args.token) (inside c.args.self.now)) c.in-AfterSemicolon.is ∙ laws.plain_semicolon c.in-AfterSemicolon.subject c.args.self.now.outer c.args.token.kind (leaf_of c.args.token) (inside c.args.self.now))
    c.after_semicolon.ensures.moves

pub returns-in-AfterObject-clause-moves : goal.returns-in-AfterObject-clause-moves
returns-in-AfterObject-clause-moves c =
    follows_as c.args.token.at c.after_object.result _ _ _ _
    (ap (λ e. moves.plain_move e c.args.self.now.outer c.args.token.kind (leaf_of c.args.token) (inside c.args.self.now)) c.in-AfterObject.is ∙ laws.plain_after c.in-AfterObject.subject c.in-AfterObject.predicate c.args.self.now.outer c.args.token.kind (leaf_of c.args.token) (inside c.args.self.now))
    c.after_object.ensures.moves

pub returns-in-AfterListed-clause-moves : goal.returns-in-AfterListed-clause-moves
returns-in-AfterListed-clause-moves c =
    follows_as c.args.token.at c.after_listed.result _ _ _ _
    (ap (λ e. moves.plain_move e c.args.self.now.outer c.args.token.kind (leaf_of c.args.token) (inside c.args.self.now)) c.in-AfterListed.is ∙ laws.plain_listed c.in-AfterListed.subject c.args.self.now.outer c.args.token.kind (leaf_of c.args.token) (inside c.args.self.now))
    c.after_listed.ensures.moves

pub returns-in-Object-clause-moves : goal.returns-in-Object-clause-moves
returns-in-Object-clause-moves c =
    follows_as c.args.token.at c.begin_object.result _ _ _ _
    (ap (λ e. moves.plain_move e c.args.self.now.outer c.args.token.kind (leaf_of c.args.token) (inside c.args.self.now)) c.in-Object.is ∙ laws.plain_object c.in-Object.subject c.in-Object.predicate c.args.self.now.outer c.args.token.kind (leaf_of c.args.token) (inside c.args.self.now))
    c.begin_object.ensures.moves

pub returns-in-Item-clause-moves : goal.returns-in-Item-clause-moves
returns-in-Item-clause-moves c =
    follows_as c.args.token.at c.in_collection.result _ _ _ _
    (ap (λ e. moves.plain_move e c.args.self.now.outer c.args.token.kind (leaf_of c.args.token) (inside c.args.self.now)) c.in-Item.is ∙ laws.plain_item c.in-Item.chain c.args.self.now.outer c.args.token.kind (leaf_of c.args.token) (inside c.args.self.now))
    c.in_collection.ensures.moves

pub returns-in-Property-clause-moves : goal.returns-in-Property-clause-moves
returns-in-Property-clause-moves c =
    follows_as c.args.token.at c.in_brackets.result _ _ _ _
    (ap (λ e. moves.plain_move e c.args.self.now.outer c.args.token.kind (leaf_of c.args.token) (inside c.args.self.now)) c.in-Property.is ∙ laws.plain_property c.in-Property.node c.args.self.now.outer c.args.token.kind (leaf_of c.args.token) (inside c.args.self.now))
    c.in_brackets.ensures.moves

pub returns-in-Datatype-clause-moves : goal.returns-in-Datatype-clause-moves
returns-in-Datatype-clause-moves c =
    follows_as c.args.token.at c.typed_by.result _ _ _ _
    (ap (λ e. moves.plain_move e c.args.self.now.outer c.args.token.kind (leaf_of c.args.token) (inside c.args.self.now)) c.in-Datatype.is ∙ laws.plain_datatype c.in-Datatype.text c.in-Datatype.hole c.args.self.now.outer c.args.token.kind (leaf_of c.args.token) (inside c.args.self.now))
    c.typed_by.ensures.moves

pub outer_step-requires-clause-outer : goal.outer_step-requires-clause-outer
outer_step-requires-clause-outer c =
    laws.is_outer c.args.next c.in_default.not-Verb c.in_default.not-AfterSemicolon c.in_default.not-AfterObject c.in_default.not-AfterListed c.in_default.not-Object c.in_default.not-Item c.in_default.not-Property c.in_default.not-Datatype

pub after_semicolon-requires : goal.after_semicolon-requires
after_semicolon-requires c = record { subject = next_as _ c.args.next _ c.in-AfterSemicolon.is c.requires.next }

pub after_object-requires : goal.after_object-requires
after_object-requires c = record { subject = (next_as _ c.args.next _ c.in-AfterObject.is c.requires.next).0 }

pub after_listed-requires : goal.after_listed-requires
after_listed-requires c = record { subject = next_as _ c.args.next _ c.in-AfterListed.is c.requires.next }

pub begin_object-requires-clause-hole : goal.begin_object-requires-clause-hole
begin_object-requires-clause-hole c = next_as _ c.args.next _ c.in-Object.is c.requires.next

pub in_collection-requires-clause-chain : goal.in_collection-requires-clause-chain
in_collection-requires-clause-chain c = next_as _ c.args.next _ c.in-Item.is c.requires.next

pub in_brackets-requires : goal.in_brackets-requires
in_brackets-requires c = record { node = next_as _ c.args.next _ c.in-Property.is c.requires.next }

pub typed_by-requires : goal.typed_by-requires
typed_by-requires c = record { hole = next_as _ c.args.next _ c.in-Datatype.is c.requires.next }

pub begin_object-requires-clause-room : goal.begin_object-requires-clause-room
begin_object-requires-clause-room c = less_room _ c.requires.room

pub outer_step-requires-clause-room : goal.outer_step-requires-clause-room
outer_step-requires-clause-room c = less_room _ c.requires.room
