use Rattle.std.proofs.Common.{ap, ◌∙◌}
use Rattle.urid_map.specs.Numbers.{with_uris}
use Rattle.urid_map.specs.Table.{initial}
use Rattle.urid_map.proofs.Added.{initial_added}
use Rattle.urid_map.proofs.urids.Urids.with_seed.Goals as goal

pub returns : goal.returns
returns c = c.in_ok-insert_all.ensures ∙ ap (λ urids. with_uris urids initial) c.empty-urids.ensures ∙ initial_added
