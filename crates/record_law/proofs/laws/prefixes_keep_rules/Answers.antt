use Rattle.record_law.proofs.Prefixes.{prefixes_keep}
use Rattle.record_law.proofs.laws.prefixes_keep_rules.Goals as goal

pub returns : goal.returns
returns c = prefixes_keep
