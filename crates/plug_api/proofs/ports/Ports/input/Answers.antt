use Rattle.std.proofs.Common.{sym, ◌∙◌, rules}
use Rattle.plug_api.proofs.Given.{samples_given}
use Rattle.plug_api.proofs.ports.Ports.input.Goals as goal

pub returns-clause-signal : goal.returns-clause-signal
returns-clause-signal c = λ numbered. search (rules, samples_given)
