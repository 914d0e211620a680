use Rattle.std.proofs.Common.{◌∙◌}
use Rattle.iri_resolve.specs.Dots.{is_slash}
use Rattle.iri_resolve.proofs.First.{last_or_zero}
use Rattle.iri_resolve.proofs.dots.last_segment.Goals as goal

pub returns-clause-value : goal.returns-clause-value
returns-clause-value c = c.unwrap_or.ensures ∙ last_or_zero is_slash _ _ c.memrchr.ensures
