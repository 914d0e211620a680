use Rattle.std.proofs.Common.{◌∙◌}
use Rattle.iri_resolve.specs.Dots.{is_slash}
use Rattle.iri_resolve.proofs.First.{first_or_len}
use Rattle.iri_resolve.proofs.dots.slash_or_len.Goals as goal

pub returns-clause-value : goal.returns-clause-value
returns-clause-value c = c.unwrap_or.ensures ∙ first_or_len is_slash _ _ c.memchr.ensures
