use Rattle.std.proofs.Common.{sym, ◌∙◌, rules}
use Rattle.plug_api.proofs.Given.{value_given}
use Rattle.plug_api.proofs.ports.Ports.value.Goals as goal

pub returns : goal.returns
returns c = search (rules, value_given)
