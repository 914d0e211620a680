use Rattle.urid_map.proofs.Places.{numbered, kept}
use Rattle.urid_map.proofs.urids.Urids.one_number.Goals as goal

pub returns-clause-numbered : goal.returns-clause-numbered
returns-clause-numbered c = rw (← c.self.view_is) (numbered c.self.inside.uris.keys c.len.ensures.unique)

pub returns-clause-kept : goal.returns-clause-kept
returns-clause-kept c = kept c.args.self.now
