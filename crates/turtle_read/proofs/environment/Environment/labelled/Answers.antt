use Rattle.std.proofs.Common.{◌<◌, sym, arith}
use Rattle.turtle_read.specs.States.{state_of}
use Rattle.turtle_read.proofs.Environments.{first_use_as}
use Rattle.turtle_read.proofs.environment.Environment.labelled.Goals as goal

pub returns-clause-value : goal.returns-clause-value
returns-clause-value c =
    first_use_as (state_of c.args.self.now) (state_of c.number-number.new.self) c.args.label.now c.in_ok-label.label c.number-number.result _
    (sym c.in_default.ensures.value)
    c.number-number.ensures.number c.number-number.ensures.next c.in_ok-label.ensures c.in_ok-insert.ensures.updates.0

pub returns-in-Some-clause-small : goal.returns-in-Some-clause-small
returns-in-Some-clause-small c =
    let h : c.in-Some.number.now < 2147483648 = c.requires.labels c.args.label.now c.in-Some.number.now (sym c.in-Some.ensures.value) in omega (arith, h)
