use Rattle.std.proofs.lemmas.Result.{IfErr-weaker}
use Rattle.session_setup.specs.Faults.{IsCause}
use Rattle.session_setup.specs.Loading.{Says, LoadsSession, LoadsBytes}
use Rattle.session_setup.proofs.Causes.{cause-second}
use Rattle.session_setup.proofs.loading.load_bytes.Goals as goal

pub returns-clause-err : goal.returns-clause-err
returns-clause-err g c =
    let v = g.V.Vault.state c.args.vault.now in
    let text = (g.C.Codes.meaning c.args.codes.now).text in
    IfErr-weaker c.load_session.result (IsCause (LoadsSession v text c.in_ok-session.session)) (IsCause (LoadsBytes v text c.args.bytes.now))
    (λ fault cause. cause-second (Says c.args.bytes.now) (LoadsSession v text) c.in_ok-session.session fault c.in_ok-session.ensures.ok cause)
    c.load_session.ensures.err
