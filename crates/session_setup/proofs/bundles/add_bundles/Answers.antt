use Rattle.std.proofs.lemmas.Result.{err_from_is_err_and}
use Rattle.session_load.proofs.Loading.{later-then}
use Rattle.session_setup.proofs.Earlier.{reads-more, reads-stop}
use Rattle.session_setup.proofs.bundles.add_bundles.Goals as goal

pub loop-number-preserved : goal.loop-number-preserved
loop-number-preserved g c =
    let at = g.V.Vault.state in
    let last = c.bundle.ensures in (
      later-then _ _ _ c.loop-number.invariant.0
          (record { known = last.known; files = last.files; faults = last.later; absences = last.absences; longs = last.longs }),
      reads-more (at c.args.vault.now) (at c.loop-number.vault) c.args.folders.now c.loop-number.number c.index-folders-number.result c.loop-number.bundles c.push.new.self c.in_ok-rows.rows
          c.loop-number.invariant.0 c.loop-number-test.true c.index-folders-number.is c.in_ok-push.ensures.ok c.loop-number.invariant.1 c.in_ok-rows.ensures.ok,
    )

pub returns-in_err-rows-clause-err : goal.returns-in_err-rows-clause-err
returns-in_err-rows-clause-err g c =
    let at = g.V.Vault.state in
    let p = err_from_is_err_and c.from_residual.result c.from_residual.ensures.1 in
    rw (p.1, p.2)
    (reads-stop (at c.args.vault.now) (at c.loop-number.vault) (at c.bundle.new.vault) c.args.folders.now c.loop-number.number c.index-folders-number.result c.loop-number.bundles c.in_err-rows.field-0.0
    c.loop-number.invariant.0 c.loop-number-test.true c.index-folders-number.is c.loop-number.invariant.1 c.in_err-rows.ensures.err)
