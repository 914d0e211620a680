use Rattle.session_setup.proofs.Versions.{newer-finds}
use Rattle.session_setup.proofs.newest.newest.Goals as goal

pub loop-place-preserved : goal.loop-place-preserved
loop-place-preserved c = rw (c.newer-found.ensures, c.in_ok-version.ensures)
    (newer-finds c.args.bundles.now c.args.uri.now c.loop-place.place c.loop-place.found c.index-bundles-place.result c.loop-place-test.true c.index-bundles-place.is c.loop-place.invariant)
