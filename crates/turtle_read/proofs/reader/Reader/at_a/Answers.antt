use Rattle.std.proofs.Common.{refl, ap, sym, ◌∙◌}
use Rattle.turtle_document.specs.Machine.{config}
use Rattle.turtle_document.specs.Machine.Move.{to}
use Rattle.turtle_document.specs.declared.expected.Expected.TheVariants as expect
use Rattle.turtle_read.specs.Moves as moves
use Rattle.turtle_read.specs.Readers.{config_of, inside}
use Rattle.turtle_read.proofs.Moves as laws
use Rattle.turtle_read.proofs.reader.Reader.at_a.Goals as goal

pub returns-in_ok-predicate-in-A-clause-moves : goal.returns-in_ok-predicate-in-A-clause-moves
returns-in_ok-predicate-in-A-clause-moves c =
    ap (λ k. moves.at_a k c.args.subject c.args.self.now.outer (inside c.args.self.now)) c.in-A.is ∙ laws.a_word c.args.subject c.args.self.now.outer (inside c.args.self.now) ∙ ap (λ p. to (config (expect.Object c.args.subject p) c.args.self.now.outer) (inside c.args.self.now)) (sym c.in_ok-predicate-in-A.ensures) ∙ ap (λ s. to (config_of s) (inside s)) (sym c.expect.ensures)

pub returns-in_default-clause-moves : goal.returns-in_default-clause-moves
returns-in_default-clause-moves c =
    (refl, laws.a_other c.args.token.kind c.args.subject c.args.self.now.outer (inside c.args.self.now) c.in_default.not-A)
