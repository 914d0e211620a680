use Rattle.std.proofs.Common.{inr}
use Rattle.plugin_decl.specs.Rules.Rule.{same_index}
use Rattle.plugin_decl.proofs.Checking.{broken-first, kept-first}
use Rattle.plugin_decl.proofs.IndexRules.{test-same_index, AreIndexes-of}
use Rattle.plugin_decl.proofs.plugin.Plugin.check_distinct.Goals as goal

pub first_repeated-requires : goal.first_repeated-requires
first_repeated-requires c = AreIndexes-of _ _ c.args.indexes.now c.requires.indexes

pub returns-in-Some : goal.returns-in-Some
returns-in-Some c = inr (broken-first _ _ _ same_index _ c.in-Some.index (test-same_index _ _ _ c.args.indexes.now c.requires.indexes) c.requires.kept c.in-Some.ensures)

pub returns-in-None : goal.returns-in-None
returns-in-None c = kept-first _ _ _ same_index _ (test-same_index _ _ _ c.args.indexes.now c.requires.indexes) c.requires.kept c.in-None.ensures
