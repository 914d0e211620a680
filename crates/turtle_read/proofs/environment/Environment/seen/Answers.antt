use Rattle.std.proofs.Common.{◌≡◌, ◌∙◌, sym, is_some, true, subst, List, ℕ}
use Rattle.std.specs.Prelude.{Err}
use Rattle.iri_resolve.specs.Components.{scheme_of}
use Rattle.turtle_read.specs.Faults.{leaf_of}
use Rattle.turtle_read.specs.Moves.{absolute}
use Rattle.turtle_read.proofs.References.{is_bad, is_good, good_from}
use Rattle.turtle_read.proofs.Schemes.{has_scheme}
use Rattle.turtle_read.proofs.environment.Environment.seen.Goals as goal

pub returns-in-Ok-clause-value : goal.returns-in-Ok-clause-value
unfolding absolute
returns-in-Ok-clause-value c =
    is_good c.args.self.now.base (leaf_of c.args.token) c.as_bytes.result.now c.in-Ok.iri (c.as_bytes.ensures.value ∙ c.requires) c.as_bytes.ensures.utf8
    (good_from c.args.self.now.base c.as_bytes.result.now c.resolve.result _ c.in-Ok.is c.args.self.now.absolute c.resolve.ensures.bad) c.in-Ok.ensures.ok

pub returns-in-Ok-clause-scheme : goal.returns-in-Ok-clause-scheme
unfolding absolute
returns-in-Ok-clause-scheme c =
    subst (λ (iri : List ℕ). is_some (scheme_of iri) ≡ true) (sym c.in-Ok.ensures.ok) (has_scheme c.args.self.now.base c.as_bytes.result.now c.args.self.now.absolute)

pub returns-in-Err-BadChar-clause-value : goal.returns-in-Err-BadChar-clause-value
unfolding absolute
returns-in-Err-BadChar-clause-value c =
    is_bad c.args.self.now.base (leaf_of c.args.token) c.as_bytes.result.now (c.as_bytes.ensures.value ∙ c.requires) c.as_bytes.ensures.utf8
    ((c.resolve.ensures.bad c.in-Err-BadChar.field-0-0).0 (c.in-Err-BadChar.is ∙ (λ i. Err (c.in-Err-BadChar.field-0-is i)))).1.0
