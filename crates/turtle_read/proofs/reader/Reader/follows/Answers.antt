use Rattle.std.proofs.Common.{◌∙◌, ap, sym, not}
use Rattle.turtle_document.specs.declared.expected.Hole.TheVariants as holes
use Rattle.turtle_read.specs.Moves as moves
use Rattle.turtle_read.proofs.Moves as laws
use Rattle.turtle_read.proofs.reader.Reader.follows.Goals as goal

pub returns-in-Comma : goal.returns-in-Comma
returns-in-Comma c =
    sym (ap (λ h. moves.follows h c.args.self.now.outer c.args.kind) c.in-Object.is
    ∙ laws.follows_more c.in-Object.subject c.in-Object.predicate c.args.self.now.outer c.args.kind c.in-Comma.is)

pub returns-in-Dot : goal.returns-in-Dot
returns-in-Dot c =
    c.is_empty.ensures
    ∙ sym (ap (λ h. moves.follows h c.args.self.now.outer c.args.kind) c.in-Object.is ∙ ap (moves.follows (holes.Object c.in-Object.subject c.in-Object.predicate) c.args.self.now.outer) c.in-Dot.is
    ∙ laws.follows_dot c.in-Object.subject c.in-Object.predicate c.args.self.now.outer)

pub returns-in-CloseSquare : goal.returns-in-CloseSquare
returns-in-CloseSquare c =
    ap not c.is_empty-in-CloseSquare.ensures
    ∙ sym (ap (λ h. moves.follows h c.args.self.now.outer c.args.kind) c.in-Object.is ∙ ap (moves.follows (holes.Object c.in-Object.subject c.in-Object.predicate) c.args.self.now.outer) c.in-CloseSquare.is
    ∙ laws.follows_close c.in-Object.subject c.in-Object.predicate c.args.self.now.outer)

pub returns-in_default : goal.returns-in_default
returns-in_default c =
    sym (ap (λ h. moves.follows h c.args.self.now.outer c.args.kind) c.in-Object.is
    ∙ laws.follows_not c.in-Object.subject c.in-Object.predicate c.args.self.now.outer c.args.kind c.in_default.not-Comma c.in_default.not-Semicolon c.in_default.not-Dot c.in_default.not-CloseSquare)

pub returns-in-CloseRound : goal.returns-in-CloseRound
returns-in-CloseRound c =
    sym (ap (λ h. moves.follows h c.args.self.now.outer c.args.kind) c.in-Item.is ∙ ap (moves.follows (holes.Item c.in-Item.first c.in-Item.node) c.args.self.now.outer) c.in-CloseRound.is
    ∙ laws.follows_last c.in-Item.first c.in-Item.node c.args.self.now.outer)

pub returns-in_default-kind : goal.returns-in_default-kind
returns-in_default-kind c =
    c.begins_object.ensures
    ∙ sym (ap (λ h. moves.follows h c.args.self.now.outer c.args.kind) c.in-Item.is
    ∙ laws.follows_item c.in-Item.first c.in-Item.node c.args.self.now.outer c.args.kind c.in_default-kind.not-CloseRound)

pub returns-in-Subject : goal.returns-in-Subject
returns-in-Subject c =
    sym (laws.follows_subject c.args.hole.now c.args.self.now.outer c.args.kind c.in-Subject.is)

pub returns-in-Subject-2 : goal.returns-in-Subject-2
returns-in-Subject-2 c =
    sym (laws.follows_subject c.args.hole.now c.args.self.now.outer c.args.kind c.in-Subject.is)
