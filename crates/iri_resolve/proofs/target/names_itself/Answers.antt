use Rattle.std.proofs.Common.{◌≡◌, true, sym, ◌∙◌, ap}
use Rattle.std.specs.Prelude.{is_some}
use Rattle.iri_resolve.specs.Components.{scheme_of, components}
use Rattle.iri_resolve.specs.Dots.{without_dots}
use Rattle.iri_resolve.specs.declared.parts.Parts.{Parts}
use Rattle.iri_resolve.proofs.Itself.{resolved-itself}
use Rattle.iri_resolve.proofs.target.names_itself.Goals as goal

pub returns-then-is_some : goal.returns-then-is_some
returns-then-is_some c = λ yes.
    let reference = c.args.reference.now in
    let scheme : is_some (scheme_of reference) ≡ true =
    sym (ap (λ (parts : Parts). is_some parts.scheme) c.requires.parts) ∙ sym c.is_some.ensures ∙ c.if-is_some.true in
    let path : without_dots (components reference).path ≡ (components reference).path = rw c.path_in.ensures at (c.is_undotted.ensures yes) in
    resolved-itself reference scheme path
