use Rattle.std.proofs.Common.{ap, ◌∙◌}
use Rattle.object_properties.specs.Properties.{properties_in}
use Rattle.object_properties.proofs.Within.{of_body}
use Rattle.object_properties.proofs.properties.Properties.of.Goals as goal

pub returns : goal.returns
returns c = ap properties_in c.after.ensures ∙ of_body c.args.body.now
