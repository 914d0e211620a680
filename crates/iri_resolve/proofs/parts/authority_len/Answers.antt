use Rattle.std.proofs.Common.{◌∙◌}
use Rattle.iri_resolve.specs.Components.{ends_authority}
use Rattle.iri_resolve.proofs.First.{first_or_len}
use Rattle.iri_resolve.proofs.parts.authority_len.Goals as goal

pub returns-clause-value : goal.returns-clause-value
returns-clause-value c = c.unwrap_or.ensures ∙ first_or_len ends_authority _ _ c.memchr3.ensures
