use Rattle.std.proofs.Common.{ap, sym, ◌∙◌}
use Rattle.triple_store.specs.declared.term.Term.TheVariants as terms
use Rattle.turtle_document.specs.Machine.{config, on}
use Rattle.turtle_document.specs.Machine.Move.{to}
use Rattle.turtle_document.specs.declared.expected.Chain.TheVariants as chains
use Rattle.turtle_document.specs.declared.expected.Expected.TheVariants as expect
use Rattle.turtle_read.specs.Moves as moves
use Rattle.turtle_read.specs.Readers.{config_of, inside}
use Rattle.turtle_read.proofs.Moves as laws
use Rattle.turtle_read.proofs.Stops.{stops_from, residual}
use Rattle.turtle_read.proofs.Bounds.{iri_below}
use Rattle.turtle_read.proofs.reader.Reader.add_item.Goals as goal

pub returns-clause-moves : goal.returns-clause-moves
returns-clause-moves c =
    λ at. laws.filled_item c.args.first c.args.node c.args.at c.args.term c.args.self.now.outer (inside c.args.self.now)
    ∙ ap (λ r. on r (to (config (expect.Item (chains.Nodes c.args.first c.args.node)) c.args.self.now.outer))) (ap (λ p. moves.add c.args.at (terms.Blank c.args.node) p c.args.term (inside c.args.self.now)) (sym c.in_ok-p.ensures) ∙ c.in_ok-add.ensures.value)
    ∙ ap (λ s. to (config_of s) (inside s)) (sym c.expect.ensures)

pub returns-in_err-add-clause-moves : goal.returns-in_err-add-clause-moves
returns-in_err-add-clause-moves c =
    λ at. residual at c.from_residual-in_err-add.result c.in_err-add.field-0.0 _ _ _ c.from_residual-in_err-add.ensures.1
    (stops_from at c.in_err-add.field-0.0 _ _ c.in_err-add.ensures.value (λ f e. laws.filled_item c.args.first c.args.node c.args.at c.args.term c.args.self.now.outer (inside c.args.self.now)
    ∙ ap (λ r. on r (to (config (expect.Item (chains.Nodes c.args.first c.args.node)) c.args.self.now.outer))) (ap (λ p. moves.add c.args.at (terms.Blank c.args.node) p c.args.term (inside c.args.self.now)) (sym c.in_ok-p.ensures) ∙ e)))

pub add-requires-clause-p : goal.add-requires-clause-p
add-requires-clause-p c = iri_below _ _ _ c.in_ok-p.ensures
