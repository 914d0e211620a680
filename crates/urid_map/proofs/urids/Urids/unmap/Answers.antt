use Rattle.iri_resolve.specs.Iri.{is_iri_text}
use Rattle.urid_map.proofs.Places.{passes_some}
use Rattle.urid_map.proofs.urids.Urids.unmap.Goals as goal

pub returns-clause-iri : goal.returns-clause-iri
returns-clause-iri c = passes_some is_iri_text c.self.inside.uris.keys _ c.get_index.result c.self.invariant.1 c.get_index.ensures.key
