use Rattle.std.proofs.Common.{◌≡◌, ◌≤◌, length, ◌∷◌, ◌++◌, [], sym, ◌∙◌, ap, arith}
use Rattle.std.specs.Option.{option_copied}
use Rattle.plugin_decl.specs.Declaration.{port_at}
use Rattle.plugin_decl.proofs.Ordering.{port_at-found, ordered-some, ordered-none, ordered-few, ports_of-is}
use Rattle.plugin_decl.proofs.plugin.Plugin.in_order.Goals as goal
use Rattle.plugin_decl.proofs.plugin.Plugin.in_order.Goals.{in-Some+in_ok-copy_of+in_ok-push, in_default}

pub loop-i-preserved : goal.loop-i-preserved
loop-i-preserved c =
    let found = port_at-found c.args.self.now.store.now c.args.self.now.term.now c.args.ports.now c.args.indexes.now c.loop-i.i c.requires.ports c.requires.indexes in
    elim c.match-port_at.branch [
      | in-Some+in_ok-copy_of+in_ok-push w ↦ ordered-some (port_at c.args.self.now.store.now c.args.self.now.term.now) c.loop-i.i w.in-Some.port.now c.loop-i.ordered c.match-port_at.ordered c.loop-i.invariant (sym (w.in-Some.ensures ∙ found))
          (w.ordered-is ∙ w.in_ok-push.ensures.ok ∙ ap (λ x. c.loop-i.ordered ++ x ∷ []) w.in_ok-copy_of.ensures)
      | in_default w ↦ w.ordered-is ∙ ordered-none (port_at c.args.self.now.store.now c.args.self.now.term.now) c.loop-i.i c.loop-i.ordered c.loop-i.invariant (sym found ∙ sym c.port_at.ensures ∙ ap option_copied w.in_default.is)
    ]

pub returns-clause-ports : goal.returns-clause-ports
returns-clause-ports c =
    let whole : c.loop-i.i ≡ length c.args.indexes.now = omega arith in
    c.loop-i.invariant ∙ ports_of-is c.args.self.now.store.now c.args.self.now.term.now c.loop-i.i c.args.indexes.now c.requires.indexes whole

pub returns-clause-few : goal.returns-clause-few
returns-clause-few c =
    let few = ordered-few (port_at c.args.self.now.store.now c.args.self.now.term.now) 0 c.loop-i.i in
    let same : length c.loop-i.ordered ≤ c.loop-i.i = rw c.loop-i.invariant few in
    omega arith
