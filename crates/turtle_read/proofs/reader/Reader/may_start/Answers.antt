use Rattle.std.proofs.Common.{length}
use Rattle.turtle_read.specs.Faults.{leaf_of}
use Rattle.turtle_read.specs.Readers.{inside}
use Rattle.turtle_read.proofs.Moves as laws
use Rattle.turtle_read.proofs.Stops.{refuses_from, gives_as, gives_fault}
use Rattle.turtle_read.proofs.reader.Reader.may_start.Goals as goal

pub returns-in_err-iri_of-in_default-clause-value : goal.returns-in_err-iri_of-in_default-clause-value
returns-in_err-iri_of-in_default-clause-value c =
    gives_fault _ c.from_residual.result c.in_err-iri_of-in_default.field-0.0 _ c.from_residual.ensures.1
    (refuses_from c.in_err-iri_of-in_default.field-0.0 _ _ c.in_err-iri_of-in_default.ensures.value
    (λ f e. laws.started_fault c.args.token.kind (leaf_of c.args.token) (length c.args.self.now.outer) (inside c.args.self.now) f c.in_default.not-OpenSquare c.in_default.not-OpenRound e))

pub returns-in-OpenSquare-clause-value : goal.returns-in-OpenSquare-clause-value
returns-in-OpenSquare-clause-value c =
    gives_as _ c.may_open.result _ _ (laws.started_open c.args.token.kind (leaf_of c.args.token) (length c.args.self.now.outer) (inside c.args.self.now) c.in-OpenSquare.is) c.may_open.ensures

pub returns-in_ok-iri_of-in_default-clause-value : goal.returns-in_ok-iri_of-in_default-clause-value
returns-in_ok-iri_of-in_default-clause-value c =
    laws.started_named c.args.token.kind (leaf_of c.args.token) (length c.args.self.now.outer) (inside c.args.self.now) c.in_ok-iri_of-in_default.field-0
    c.in_default.not-OpenSquare c.in_default.not-OpenRound c.in_ok-iri_of-in_default.ensures.value
