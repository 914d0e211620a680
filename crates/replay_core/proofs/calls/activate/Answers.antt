use Rattle.std.proofs.Common.{ap, ◌∙◌}
use Rattle.replay_core.proofs.calls.activate.Goals as goal

pub returns-clause-uri : goal.returns-clause-uri
returns-clause-uri g c = ap g.F.Front.uri_of c.activate.ensures ∙ g.met.F.Front.activate_keeps c.args.front.now
