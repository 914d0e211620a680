use Rattle.std.proofs.Common.{◌∙◌, refl, ap, Ok}
use Rattle.turtle_read.specs.Faults.{leaf_of}
use Rattle.turtle_read.specs.Readers.{inside}
use Rattle.turtle_read.proofs.Stops.{names_fault, names_residual}
use Rattle.turtle_read.proofs.reader.Reader.datatype.Goals as goal

pub returns-in_err-datatype-clause-err : goal.returns-in_err-datatype-clause-err
returns-in_err-datatype-clause-err c =
    names_residual c.args.token.at c.from_residual.result c.in_err-datatype.field-0.0 _ _ _ c.from_residual.ensures.1
    (names_fault c.args.token.at c.in_err-datatype.field-0.0 c.args.token.kind (leaf_of c.args.token) (inside c.args.self.now) c.in_err-datatype.ensures.value)

pub returns-in-Some-clause-ok : goal.returns-in-Some-clause-ok
returns-in-Some-clause-ok c = c.in_ok-datatype.ensures.value ∙ ap Ok c.in-Some.is

pub returns-in-None-clause-err : goal.returns-in-None-clause-err
returns-in-None-clause-err c = (refl, c.in_ok-datatype.ensures.value ∙ ap Ok c.in-None.is)
