use Rattle.std.proofs.Common.{refl}
use Rattle.std.proofs.lemmas.Result.{err_from_is_err_and}
use Rattle.session_load.specs.Bundle.{place}
use Rattle.session_load.proofs.Loading.{later-itself, later-then, adds-more, stops}
use Rattle.session_load.proofs.bundle_files.Folder.read_files.Goals as goal

pub loop-name-init : goal.loop-name-init
loop-name-init g c = (later-itself _, refl, c.requires)

pub loop-name-preserved : goal.loop-name-preserved
loop-name-preserved g c = (
  later-then _ _ _ c.loop-name.invariant.0 c.read_file.ensures.later,
  adds-more _ _ (place c.args.self.now.number c.args.self.now.path.now) c.args.names.now c.loop-name.name-index c.name-item.result c.args.store.now c.loop-name.store c.read_file.new.store
      c.loop-name.invariant.0 c.loop-name-test.true c.name-item.is c.loop-name.invariant.1 c.in_ok-read_file.ensures.ok,
  c.read_file.ensures.few,
)

pub returns-in_err-read_file-clause-err : goal.returns-in_err-read_file-clause-err
returns-in_err-read_file-clause-err g c =
    let p = err_from_is_err_and c.from_residual.result c.from_residual.ensures.1 in
    let at = place c.args.self.now.number c.args.self.now.path.now in
    rw (p.1, p.2)
    (stops _ _ _ at c.args.names.now c.loop-name.name-index c.name-item.result c.args.store.now c.loop-name.store c.in_err-read_file.field-0.0
    c.loop-name.invariant.0 c.loop-name-test.true c.name-item.is c.loop-name.invariant.1 c.in_err-read_file.ensures.err)

pub returns-in_err-read_file-clause-later : goal.returns-in_err-read_file-clause-later
returns-in_err-read_file-clause-later g c = later-then _ _ _ c.loop-name.invariant.0 c.read_file.ensures.later
