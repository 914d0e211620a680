use Rattle.std.proofs.Common.{ap, sym, ◌∙◌}
use Rattle.turtle_document.specs.Machine.{config}
use Rattle.turtle_document.specs.Machine.Move.{to}
use Rattle.turtle_document.specs.declared.expected.Chain.TheVariants as chains
use Rattle.turtle_document.specs.declared.expected.Expected.TheVariants as expect
use Rattle.turtle_read.specs.Faults.{leaf_of}
use Rattle.turtle_read.specs.Readers.{config_of, inside}
use Rattle.turtle_read.proofs.Moves as laws
use Rattle.turtle_read.proofs.Stops.{stops_from, residual}
use Rattle.turtle_read.proofs.reader.Reader.open_round.Goals as goal

pub returns-in_err-may_open-clause-moves : goal.returns-in_err-may_open-clause-moves
returns-in_err-may_open-clause-moves c =
    residual c.args.token.at c.from_residual.result c.in_err-may_open.field-0.0 _ _ _ c.from_residual.ensures.1
    (stops_from c.args.token.at c.in_err-may_open.field-0.0 _ _ c.in_err-may_open.ensures (λ f e. laws.node_round_fault c.args.hole (leaf_of c.args.token) c.args.self.now.outer (inside c.args.self.now) f e))

pub returns-clause-moves : goal.returns-clause-moves
returns-clause-moves c =
    laws.node_round c.args.hole (leaf_of c.args.token) c.args.self.now.outer (inside c.args.self.now) c.in_ok-may_open.ensures
    ∙ ap (λ o. to (config (expect.Item chains.Empty) o) (inside c.args.self.now)) (sym c.in_ok-push.ensures) ∙ ap (λ s. to (config_of s) (inside s)) (sym c.expect.ensures)
