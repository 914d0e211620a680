use Rattle.std.proofs.Common.{◌∙◌}
use Rattle.iri_resolve.specs.Components.{ends_query}
use Rattle.iri_resolve.proofs.First.{first_or_len}
use Rattle.iri_resolve.proofs.parts.query_len.Goals as goal

pub returns-clause-value : goal.returns-clause-value
returns-clause-value c = c.unwrap_or.ensures ∙ first_or_len ends_query _ _ c.memchr.ensures
