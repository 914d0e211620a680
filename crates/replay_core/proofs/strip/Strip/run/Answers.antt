use Rattle.std.proofs.Common.{ap, ◌∙◌}
use Rattle.replay_core.proofs.strip.Strip.run.Goals as goal

pub returns-clause-uri : goal.returns-clause-uri
returns-clause-uri g c = ap g.F.Front.uri_of c.run.ensures.front ∙ g.met.F.Front.run_keeps c.args.front.now _
