use Rattle.std.proofs.lemmas.Result.{IfErr-weaker}
use Rattle.session_setup.specs.Faults.{IsCause, IsCounted}
use Rattle.session_setup.specs.Loading.{Arranges}
use Rattle.session_setup.proofs.Whole.{arrange-counted}
use Rattle.session_setup.proofs.loading.arrange.Goals as goal

pub returns-clause-counted : goal.returns-clause-counted
returns-clause-counted g c =
    let at = g.V.Vault.state in
    let text = (g.C.Codes.meaning c.args.codes.now).text in
    IfErr-weaker c.arrange_over.result (IsCause (Arranges text c.as_slice-2.result.now c.args.session.now)) (IsCounted (at c.args.vault.now) (at c.read_bundles.new.vault))
    (λ fault cause. arrange-counted (at c.args.vault.now) (at c.read_bundles.new.vault) text c.as_slice-2.result.now c.args.session.now fault cause)
    c.arrange_over.ensures.err
