use Rattle.session_setup.specs.Loading.{LoadsFile}
use Rattle.whole_setup.proofs.Whole.{whole-ok, whole-err}
use Rattle.whole_setup.proofs.loading.load.Goals as goal

pub returns-clause-ok : goal.returns-clause-ok
returns-clause-ok g c =
    let at = g.V.Vault.state in
    whole-ok (at c.args.vault.now) (at c.load.new.vault) c.args.urids.now c.complete.new.urids
    (LoadsFile (at c.args.vault.now) (g.C.Codes.meaning c.args.codes.now).text c.args.path.now) c.in_ok-loaded.loaded c.complete.result
    c.in_ok-loaded.ensures.ok c.in_ok-loaded.ensures.later c.complete.ensures.ok

pub returns-clause-err : goal.returns-clause-err
returns-clause-err g c =
    let at = g.V.Vault.state in
    whole-err (at c.args.vault.now) (at c.load.new.vault) c.args.urids.now
    (LoadsFile (at c.args.vault.now) (g.C.Codes.meaning c.args.codes.now).text c.args.path.now) c.in_ok-loaded.loaded c.complete.result
    c.in_ok-loaded.ensures.ok c.in_ok-loaded.ensures.later c.complete.ensures.err
