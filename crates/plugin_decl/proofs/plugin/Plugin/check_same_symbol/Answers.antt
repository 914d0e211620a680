use Rattle.std.proofs.Common.{inr}
use Rattle.plugin_decl.specs.Rules.Rule.{same_symbol}
use Rattle.plugin_decl.proofs.Checking.{broken-first, kept-first}
use Rattle.plugin_decl.proofs.PortTests.{test-same_symbol}
use Rattle.plugin_decl.proofs.plugin.Plugin.check_same_symbol.Goals as goal

pub returns-in-Some : goal.returns-in-Some
returns-in-Some c = inr (broken-first _ _ _ same_symbol _ c.in-Some.index (test-same_symbol _ _ _ c.args.ports.now c.requires.ports) c.requires.kept c.in-Some.ensures.first)

pub returns-in-None : goal.returns-in-None
returns-in-None c = kept-first _ _ _ same_symbol _ (test-same_symbol _ _ _ c.args.ports.now c.requires.ports) c.requires.kept c.in-None.ensures.first
