use Rattle.std.proofs.Common.{◌∙◌, refl, ap, sym}
use Rattle.turtle_document.specs.Machine.Move.{to}
use Rattle.turtle_read.specs.Moves as moves
use Rattle.turtle_read.specs.Readers.{config_of, inside}
use Rattle.turtle_read.proofs.Moves as laws
use Rattle.turtle_read.proofs.reader.Reader.at_dot.Goals as goal

pub returns-in-Dot-clause-moves : goal.returns-in-Dot-clause-moves
returns-in-Dot-clause-moves c =
    ap (λ k. moves.at_dot k c.args.self.now.outer (inside c.args.self.now)) c.in-Dot.is ∙ laws.dot_ends c.args.self.now.outer (inside c.args.self.now)
    ∙ ap (λ s. to (config_of s) (inside s)) (sym c.expect.ensures)

pub returns-in_default-clause-moves : goal.returns-in_default-clause-moves
returns-in_default-clause-moves c =
    (refl, laws.dot_other c.args.token.kind c.args.self.now.outer (inside c.args.self.now) c.in_default.not-Dot)
