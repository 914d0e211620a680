use Rattle.std.proofs.Common.{refl}
use Rattle.record_law.proofs.Verdicts.{verdict_is_lawful}
use Rattle.law_tests.specs.KeepLate.{session, steps}
use Rattle.law_tests.proofs.keep_late_record.Goals as goal

pub returns-clause-lawful : goal.returns-clause-lawful
returns-clause-lawful c = verdict_is_lawful session steps refl

pub returns-clause-copies : goal.returns-clause-copies
returns-clause-copies c = refl
