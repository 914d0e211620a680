use Rattle.std.proofs.Common.{inr, sym, ◌∙◌}
use Rattle.plugin_decl.proofs.PortTests.{class-kept, class-broken}
use Rattle.plugin_decl.proofs.plugin.Plugin.check_class.Goals as goal

pub returns-then-is_a : goal.returns-then-is_a
returns-then-is_a c = class-kept c.args.self.now.store.now c.args.self.now.term.now c.args.self.now.block (sym c.is_a.ensures ∙ c.if-is_a.true)

pub returns-else-is_a : goal.returns-else-is_a
returns-else-is_a c = inr (class-broken c.args.self.now.store.now c.args.self.now.term.now c.args.self.now.block (sym c.is_a.ensures ∙ c.if-is_a.false))
