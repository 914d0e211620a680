use Rattle.lawful.proofs.LooksKept.{looks_keep_rules}
use Rattle.lawful.proofs.Rings.{rings_keep_rules}
use Rattle.lawful.proofs.merged.keeps_rings.Goals as goal

pub returns-clause-rings : goal.returns-clause-rings
returns-clause-rings c = rings_keep_rules

pub returns-clause-looks : goal.returns-clause-looks
returns-clause-looks c = looks_keep_rules
