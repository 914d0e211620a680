use Rattle.std.proofs.Common.{◌∙◌, refl, ap, arith}
use Rattle.turtle_read.specs.States.{state_of, kept_of}
use Rattle.turtle_read.specs.Readers.{inside}
use Rattle.turtle_read.proofs.Told.{no_fewer, begins_at, is_read, is_told}
use Rattle.turtle_read.proofs.document.read_text.Goals as goal

pub overflow_sub-result : goal.overflow_sub-result
overflow_sub-result c =
    let begun = begins_at c.args.base.now c.args.store.now c.in_ok-base.base c.replace-taken.result (inside c.new-reader.result)
    (ap state_of c.new-reader.ensures.environment ∙ c.new-environment.ensures.state) c.in_ok-base.ensures.cases c.replace-taken.ensures.value in
    let whole = is_read c.args.base.now c.args.store.now c.args.text.now (inside c.new-reader.result) c.read_all.new.store _ begun refl c.in-Ok.ensures.ok in
    let more = no_fewer c.args.base.now c.args.store.now c.args.text.now c.read_all.new.store whole (omega (arith, c.count-before.ensures.value, c.count-before.ensures.few)) in
    omega (arith, more, c.count-before.ensures.value, c.count.ensures.value)

pub returns-in-Ok : goal.returns-in-Ok
returns-in-Ok c =
    let begun = begins_at c.args.base.now c.args.store.now c.in_ok-base.base c.replace-taken.result (inside c.new-reader.result)
    (ap state_of c.new-reader.ensures.environment ∙ c.new-environment.ensures.state) c.in_ok-base.ensures.cases c.replace-taken.ensures.value in
    let whole = is_read c.args.base.now c.args.store.now c.args.text.now (inside c.new-reader.result) c.read_all.new.store _ begun refl c.in-Ok.ensures.ok in
    let more = no_fewer c.args.base.now c.args.store.now c.args.text.now c.read_all.new.store whole (omega (arith, c.count-before.ensures.value, c.count-before.ensures.few)) in
    (whole, omega (arith, more, c.count-before.ensures.value, c.count.ensures.value))

pub returns-in-Err : goal.returns-in-Err
returns-in-Err c =
    let begun = begins_at c.args.base.now c.args.store.now c.in_ok-base.base c.replace-taken.result (inside c.new-reader.result)
    (ap state_of c.new-reader.ensures.environment ∙ c.new-environment.ensures.state) c.in_ok-base.ensures.cases c.replace-taken.ensures.value in (
      is_told c.args.base.now c.args.store.now c.args.text.now (inside c.new-reader.result) c.in-Err.fault begun c.in-Err.ensures.err,
      c.in-Err.ensures.rows ∙ ap kept_of c.new-reader.ensures.environment ∙ c.new-environment.ensures.kept ∙ c.replace-taken.ensures.value,
    )

pub read_all-requires-clause-begun : goal.read_all-requires-clause-begun
read_all-requires-clause-begun c = (
  c.args.base.now,
  c.args.store.now,
  begins_at c.args.base.now c.args.store.now c.in_ok-base.base c.replace-taken.result (inside c.new-reader.result)
      (ap state_of c.new-reader.ensures.environment ∙ c.new-environment.ensures.state) c.in_ok-base.ensures.cases c.replace-taken.ensures.value,
  c.requires.few,
)
