use Rattle.std.proofs.Common.{length, ap, sym, ◌∙◌}
use Rattle.atom_core.proofs.Keyed.{takes_none}
use Rattle.atom_core.proofs.properties.AtomPropertiesIterator.next.Goals as goal

pub returns-in_err-property-clause-steps : goal.returns-in_err-property-clause-steps
returns-in_err-property-clause-steps c = λ parts spells.
    rw c.from_residual.ensures (takes_none c.args.self.now parts spells (sym (ap length c.self.view_is) ∙ c.in_err-property.ensures.none))
