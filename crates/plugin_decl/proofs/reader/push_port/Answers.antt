use Rattle.std.proofs.Common.{◌∷◌, ◌++◌, [], ap, ◌∙◌}
use Rattle.plugin_decl.proofs.PortFacts.{port-told, breaches-told}
use Rattle.plugin_decl.proofs.reader.push_port.Goals as goal

pub returns-clause-ports : goal.returns-clause-ports
returns-clause-ports c =
    c.in_ok-push.ensures.ok
    ∙ ap (λ port. c.args.ports.now ++ port ∷ []) (c.in_ok-port.ensures ∙ port-told c.args.store.now c.args.node.now c.read-facts.result c.read-facts.ensures)

pub returns-clause-breaches : goal.returns-clause-breaches
returns-clause-breaches c =
    c.in_ok-push-2.ensures.ok
    ∙ ap (λ broken. c.args.breaches.now ++ broken ∷ []) (c.breaches.ensures ∙ breaches-told c.args.store.now c.args.node.now c.read-facts.result c.read-facts.ensures)
