use Rattle.host_main.proofs.Plugins.{passed_on, refused_at}
use Rattle.host_main.proofs.checking.plugins.push_plugins.Goals as goal

pub returns-in_err-push_plugin-clause-err : goal.returns-in_err-push_plugin-clause-err
returns-in_err-push_plugin-clause-err c =
    let loop = c.loop-uri.invariant in
    passed_on c.args.store.now c.from_residual-in_err-push_plugin.result _ c.from_residual-in_err-push_plugin.ensures.1
    (refused_at c.args.store.now _ c.loop-uri.uri-index c.uri-item.result c.in_err-push_plugin.field-0.0 loop.same
    c.loop-uri-test.true c.uri-item.is loop.declared c.in_err-push_plugin.ensures.err)
