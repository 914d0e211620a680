use Rattle.std.proofs.Common.{ap, sym, ◌∙◌}
use Rattle.turtle_document.specs.Machine.{Config, config, on}
use Rattle.turtle_document.specs.Machine.Move.{to}
use Rattle.turtle_document.specs.declared.expected.Expected.TheVariants as expect
use Rattle.turtle_read.specs.Readers.{config_of, inside}
use Rattle.turtle_read.proofs.Moves as laws
use Rattle.turtle_read.proofs.Stops.{stops_from, residual}
use Rattle.turtle_read.proofs.reader.Reader.add_object.Goals as goal

pub returns-clause-moves : goal.returns-clause-moves
returns-clause-moves c =
    λ at. laws.filled_object c.args.subject c.args.predicate c.args.at c.args.term c.args.self.now.outer (inside c.args.self.now)
    ∙ ap (λ r. on r (to (config (expect.AfterObject c.args.subject c.args.predicate) c.args.self.now.outer))) c.in_ok-add_of.ensures.value
    ∙ ap (λ (x : Config). to (config (expect.AfterObject c.args.subject c.args.predicate) x.outer) (inside c.add_of.new.self)) (sym c.in_ok-add_of.ensures.same)
    ∙ ap (λ s. to (config_of s) (inside s)) (sym c.expect.ensures)

pub returns-in_err-add_of-clause-moves : goal.returns-in_err-add_of-clause-moves
returns-in_err-add_of-clause-moves c =
    λ at. residual at c.from_residual.result c.in_err-add_of.field-0.0 _ _ _ c.from_residual.ensures.1
    (stops_from at c.in_err-add_of.field-0.0 _ _ c.in_err-add_of.ensures.value (λ f e. laws.filled_object c.args.subject c.args.predicate c.args.at c.args.term c.args.self.now.outer (inside c.args.self.now)
    ∙ ap (λ r. on r (to (config (expect.AfterObject c.args.subject c.args.predicate) c.args.self.now.outer))) e))
