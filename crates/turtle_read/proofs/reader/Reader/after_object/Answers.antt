use Rattle.std.proofs.Common.{ap, sym, ◌∙◌}
use Rattle.turtle_document.specs.Machine.Move.{to}
use Rattle.turtle_read.specs.Faults.{leaf_of}
use Rattle.turtle_read.specs.Moves as moves
use Rattle.turtle_read.specs.Readers.{config_of, inside}
use Rattle.turtle_read.proofs.Moves as laws
use Rattle.turtle_read.proofs.Stops.{follows_as}
use Rattle.turtle_read.proofs.reader.Reader.after_object.Goals as goal

pub returns-in-Comma-clause-moves : goal.returns-in-Comma-clause-moves
returns-in-Comma-clause-moves c =
    ap (λ k. moves.after_object k (leaf_of c.args.token) c.args.subject c.args.predicate c.args.self.now.outer (inside c.args.self.now)) c.in-Comma.is ∙ laws.after_object_comma (leaf_of c.args.token) c.args.subject c.args.predicate c.args.self.now.outer (inside c.args.self.now) ∙ ap (λ s. to (config_of s) (inside s)) (sym c.expect.ensures)

pub returns-in-Semicolon-clause-moves : goal.returns-in-Semicolon-clause-moves
returns-in-Semicolon-clause-moves c =
    ap (λ k. moves.after_object k (leaf_of c.args.token) c.args.subject c.args.predicate c.args.self.now.outer (inside c.args.self.now)) c.in-Semicolon.is ∙ laws.after_object_semicolon (leaf_of c.args.token) c.args.subject c.args.predicate c.args.self.now.outer (inside c.args.self.now) ∙ ap (λ s. to (config_of s) (inside s)) (sym c.expect-in-Semicolon.ensures)

pub returns-in_default-clause-moves : goal.returns-in_default-clause-moves
returns-in_default-clause-moves c =
    follows_as c.args.token.at c.at_end.result _ _ _ _ (laws.after_object_other c.args.token.kind (leaf_of c.args.token) c.args.subject c.args.predicate c.args.self.now.outer (inside c.args.self.now) c.in_default.not-Comma c.in_default.not-Semicolon) c.at_end.ensures.moves
