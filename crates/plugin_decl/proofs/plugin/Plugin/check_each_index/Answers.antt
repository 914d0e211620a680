use Rattle.std.proofs.Common.{inr}
use Rattle.std.specs.Prelude.{is_none}
use Rattle.plugin_decl.specs.Rules.Rule.{bad_index}
use Rattle.plugin_decl.proofs.Checking.{broken-first, kept-first}
use Rattle.plugin_decl.proofs.IndexRules.{test-bad_index}
use Rattle.plugin_decl.proofs.Places.{position-first}
use Rattle.plugin_decl.proofs.plugin.Plugin.check_each_index.Goals as goal

pub returns-in-Some : goal.returns-in-Some
returns-in-Some c = inr (broken-first _ _ _ bad_index _ c.in-Some.place (test-bad_index _ _ _ c.args.indexes.now c.requires.indexes) c.requires.kept (position-first is_none c.args.indexes.now _ c.in-Some.ensures))

pub returns-in-None : goal.returns-in-None
returns-in-None c = kept-first _ _ _ bad_index _ (test-bad_index _ _ _ c.args.indexes.now c.requires.indexes) c.requires.kept (position-first is_none c.args.indexes.now _ c.in-None.ensures)
