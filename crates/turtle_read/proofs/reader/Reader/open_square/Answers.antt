use Rattle.std.proofs.Common.{◌∷◌, ap, sym, ◌∙◌}
use Rattle.turtle_document.specs.Machine.{Config, config}
use Rattle.turtle_document.specs.Machine.Move.{to}
use Rattle.turtle_document.specs.declared.expected.Expected.TheVariants as expect
use Rattle.turtle_read.specs.Faults.{leaf_of}
use Rattle.turtle_read.specs.Readers.{config_of, inside}
use Rattle.turtle_read.proofs.Moves as laws
use Rattle.turtle_read.proofs.Stops.{stops_from, residual}
use Rattle.turtle_read.proofs.reader.Reader.open_square.Goals as goal

pub returns-in_err-node-clause-moves : goal.returns-in_err-node-clause-moves
returns-in_err-node-clause-moves c =
    residual c.args.token.at c.from_residual.result c.in_err-node.field-0.0 _ _ _ c.from_residual.ensures.1
    (stops_from c.args.token.at c.in_err-node.field-0.0 _ _ c.in_err-node.ensures.value (λ f e. laws.node_square_fault c.args.hole (leaf_of c.args.token) c.args.self.now.outer (inside c.args.self.now) f e))

pub returns-clause-moves : goal.returns-clause-moves
returns-clause-moves c =
    laws.node_square c.args.hole (leaf_of c.args.token) c.args.self.now.outer (inside c.args.self.now) (inside c.new_node.new.self) c.in_ok-node.node c.in_ok-node.ensures.value c.in_ok-node.ensures.node c.in_ok-node.ensures.next
    ∙ ap (λ (x : Config). to (config (expect.Property c.in_ok-node.node) (c.args.hole ∷ x.outer)) (inside c.new_node.new.self)) (sym c.in_ok-node.ensures.same)
    ∙ ap (λ o. to (config (expect.Property c.in_ok-node.node) o) (inside c.new_node.new.self)) (sym c.in_ok-push.ensures) ∙ ap (λ s. to (config_of s) (inside s)) (sym c.expect.ensures)
