use Rattle.std.proofs.Common.{Contains, subst}
use Rattle.turtle_value.proofs.Plain.{found}
use Rattle.turtle_value.proofs.unescape.plain_content.Goals as goal

pub returns-in-Some-clause-escaped : goal.returns-in-Some-clause-escaped
returns-in-Some-clause-escaped c =
    subst (λ x. Contains x 92) c.within-inner.ensures (found c.within-inner.result.now c.in-Some.field-0 c.within-inner.utf8 c.in-Some.ensures.cases)
