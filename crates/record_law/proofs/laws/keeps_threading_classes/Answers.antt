use Rattle.record_law.proofs.Classes.{rules_keep_classes}
use Rattle.record_law.proofs.Overlaps.{none_overlaps, instantiation_alone}
use Rattle.record_law.proofs.laws.keeps_threading_classes.Goals as goal

pub returns-clause-kept : goal.returns-clause-kept
returns-clause-kept c = rules_keep_classes

pub returns-clause-apart : goal.returns-clause-apart
returns-clause-apart c = none_overlaps

pub returns-clause-alone : goal.returns-clause-alone
returns-clause-alone c = instantiation_alone
