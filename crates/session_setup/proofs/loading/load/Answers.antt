use Rattle.session_setup.proofs.Whole.{made-of-file, cause-of-file}
use Rattle.session_setup.proofs.loading.load.Goals as goal

pub returns-clause-ok : goal.returns-clause-ok
returns-clause-ok g c =
    let at = g.V.Vault.state in
    made-of-file (at c.args.vault.now) (at c.fetch.new.vault) (g.C.Codes.meaning c.args.codes.now).text c.args.path.now c.in_ok-bytes.bytes c.as_slice.result.now c.load_bytes.result
    c.in_ok-bytes.ensures.later c.as_slice.ensures c.in_ok-bytes.ensures.ok c.load_bytes.ensures.ok

pub returns-clause-err : goal.returns-clause-err
returns-clause-err g c =
    let at = g.V.Vault.state in
    cause-of-file (at c.args.vault.now) (at c.fetch.new.vault) (g.C.Codes.meaning c.args.codes.now).text c.args.path.now c.in_ok-bytes.bytes c.as_slice.result.now c.load_bytes.result
    c.in_ok-bytes.ensures.later c.as_slice.ensures c.in_ok-bytes.ensures.ok c.load_bytes.ensures.err
