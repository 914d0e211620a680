use Rattle.std.proofs.Common.{◌∙◌, refl, ap, sym}
use Rattle.turtle_document.specs.Machine.Move.{to}
use Rattle.turtle_read.specs.Faults.{leaf_of}
use Rattle.turtle_read.specs.Moves as moves
use Rattle.turtle_read.specs.Readers.{config_of, inside}
use Rattle.turtle_read.specs.States.{state_of}
use Rattle.turtle_read.proofs.Moves as laws
use Rattle.turtle_read.proofs.Stops.{stops_from, residual}
use Rattle.turtle_read.proofs.reader.Reader.at_base.Goals as goal

pub returns-in_err-set_base-in-Iri-clause-moves : goal.returns-in_err-set_base-in-Iri-clause-moves
returns-in_err-set_base-in-Iri-clause-moves c =
    residual c.args.token.at c.from_residual.result c.in_err-set_base-in-Iri.field-0.0 _ _ _ c.from_residual.ensures.1
    (stops_from c.args.token.at c.in_err-set_base-in-Iri.field-0.0 _ _ c.in_err-set_base-in-Iri.ensures.value (λ f e. ap (λ k. moves.at_base k (leaf_of c.args.token) c.args.dot c.args.self.now.outer (inside c.args.self.now)) c.in-Iri.is
    ∙ laws.base_fault (leaf_of c.args.token) c.args.dot c.args.self.now.outer (inside c.args.self.now) f e))

pub returns-in_ok-set_base-in-Iri-clause-moves : goal.returns-in_ok-set_base-in-Iri-clause-moves
returns-in_ok-set_base-in-Iri-clause-moves c =
    ap (λ k. moves.at_base k (leaf_of c.args.token) c.args.dot c.args.self.now.outer (inside c.args.self.now)) c.in-Iri.is
    ∙ laws.base_iri (leaf_of c.args.token) c.args.dot c.args.self.now.outer (inside c.args.self.now) (state_of c.set_base.new.self) c.after_iri.result c.in_ok-set_base-in-Iri.ensures.value c.after_iri.ensures
    ∙ ap (λ s. to (config_of s) (inside s)) (sym c.expect.ensures)

pub returns-in_default-clause-moves : goal.returns-in_default-clause-moves
returns-in_default-clause-moves c =
    (refl, laws.base_other c.args.token.kind (leaf_of c.args.token) c.args.dot c.args.self.now.outer (inside c.args.self.now) c.in_default.not-Iri)
