use Rattle.std.proofs.Common.{◌∙◌, refl, ap, sym}
use Rattle.turtle_document.specs.Machine.Move.{to}
use Rattle.turtle_read.specs.Readers.{config_of, inside}
use Rattle.turtle_read.proofs.Moves as laws
use Rattle.turtle_read.proofs.reader.Reader.at_directive.Goals as goal

pub returns-then-eq-clause-moves : goal.returns-then-eq-clause-moves
returns-then-eq-clause-moves c =
    laws.directive_prefix c.args.token.text.now c.args.self.now.outer (inside c.args.self.now) (sym c.eq.ensures ∙ c.if-eq.true)
    ∙ ap (λ s. to (config_of s) (inside s)) (sym c.expect.ensures)

pub returns-then-eq-2-clause-moves : goal.returns-then-eq-2-clause-moves
returns-then-eq-2-clause-moves c =
    laws.directive_base c.args.token.text.now c.args.self.now.outer (inside c.args.self.now) (sym c.eq.ensures ∙ c.if-eq.false) (sym c.eq-else-eq.ensures ∙ c.if-eq-2.true)
    ∙ ap (λ s. to (config_of s) (inside s)) (sym c.expect-then-eq-2.ensures)

pub returns-else-eq-2-clause-moves : goal.returns-else-eq-2-clause-moves
returns-else-eq-2-clause-moves c =
    (refl, laws.directive_other c.args.token.text.now c.args.self.now.outer (inside c.args.self.now) (sym c.eq.ensures ∙ c.if-eq.false) (sym c.eq-else-eq.ensures ∙ c.if-eq-2.false))
