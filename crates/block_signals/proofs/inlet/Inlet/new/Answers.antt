use Rattle.std.proofs.Common.{List, ◌∙◌}
use Rattle.plugin_decl.specs.declared.declaration.Port.{Port}
use Rattle.block_signals.proofs.Given.{new_inlet}
use Rattle.block_signals.proofs.inlet.Inlet.new.Goals as goal

pub returns-clause-inlet : goal.returns-clause-inlet
returns-clause-inlet c =
    let ports : List Port = c.as_slice-ports.result.now in
    new_inlet c.args.setup.now c.args.inst _ ports (c.as_slice-ports.ensures ∙ c.requires.ports) (c.from_vec-of.ensures ∙ c.in_ok-places_of.ensures) c.in_ok-inputs.ensures
    c.in_ok-symbols.ensures c.in_ok-ins.ensures.others

pub returns-clause-values : goal.returns-clause-values
returns-clause-values c = c.in_ok-ins.ensures.values (c.as_slice-ports.ensures ∙ c.requires.ports)
