use Rattle.std.proofs.Common.{inr}
use Rattle.plugin_decl.specs.Rules.Rule.{gap}
use Rattle.plugin_decl.proofs.Checking.{broken-first, kept-first}
use Rattle.plugin_decl.proofs.IndexRules.{test-gap, AreIndexes-of, few-ports}
use Rattle.plugin_decl.proofs.plugin.Plugin.check_gaps.Goals as goal

pub first_gap-requires : goal.first_gap-requires
first_gap-requires c = AreIndexes-of _ _ c.args.indexes.now c.requires.indexes

pub returns-in-Some-clause-checked : goal.returns-in-Some-clause-checked
returns-in-Some-clause-checked c = inr (broken-first _ _ _ gap _ c.in-Some.index (test-gap _ _ _ c.args.indexes.now c.requires.indexes) c.requires.kept c.in-Some.ensures)

pub returns-in-None-clause-checked : goal.returns-in-None-clause-checked
returns-in-None-clause-checked c = kept-first _ _ _ gap _ (test-gap _ _ _ c.args.indexes.now c.requires.indexes) c.requires.kept c.in-None.ensures

pub returns-in-None-clause-few : goal.returns-in-None-clause-few
returns-in-None-clause-few c = few-ports c.args.indexes.now (AreIndexes-of _ _ c.args.indexes.now c.requires.indexes) c.in-None.ensures
