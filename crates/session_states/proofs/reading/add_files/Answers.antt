use Rattle.std.proofs.Common.{refl}
use Rattle.std.proofs.lemmas.Result.{err_from_is_err_and}
use Rattle.session_load.proofs.Loading.{later-itself, later-then}
use Rattle.session_states.proofs.Earlier.{AreSoFar, next_states, stops, starved}
use Rattle.session_states.proofs.reading.add_files.Goals as goal

pub loop-number-init : goal.loop-number-init
loop-number-init g c = (later-itself _, (c.requires, refl))

pub loop-number-preserved : goal.loop-number-preserved
loop-number-preserved g c = (
  later-then _ _ _ c.loop-number.invariant.0 c.read_states.ensures.later,
  next_states _ _ c.args.restores.now c.args.paths.now c.args.urids.now c.loop-number.number c.index-paths-number.result c.loop-number.files c.push.new.files
      c.loop-number.urids c.read_states.new.urids c.in_ok-read_states.field-0
      (record { later = c.loop-number.invariant.0; within = c.loop-number-test.true; next = c.index-paths-number.is; before = c.loop-number.invariant.1 })
      c.in_ok-read_states.ensures.ok c.in_ok-push.ensures,
)

pub returns-in_err-read_states-clause-err : goal.returns-in_err-read_states-clause-err
returns-in_err-read_states-clause-err g c =
    let p = err_from_is_err_and c.from_residual.result c.from_residual.ensures.1 in
    rw (p.1, p.2)
    (stops _ _ _ c.args.restores.now c.args.paths.now c.args.urids.now c.loop-number.number c.index-paths-number.result c.loop-number.files c.loop-number.urids
    c.in_err-read_states.field-0.0
    (record { later = c.loop-number.invariant.0; within = c.loop-number-test.true; next = c.index-paths-number.is; before = c.loop-number.invariant.1 })
    c.in_err-read_states.ensures.err)

pub returns-in_err-read_states-clause-later : goal.returns-in_err-read_states-clause-later
returns-in_err-read_states-clause-later g c = later-then _ _ _ c.loop-number.invariant.0 c.read_states.ensures.later
