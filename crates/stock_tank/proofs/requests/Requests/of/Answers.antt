use Rattle.stock_tank.proofs.Requesting.{requests_spelled}
use Rattle.stock_tank.proofs.requests.Requests.of.Goals as goal

pub returns : goal.returns
returns c = λ parts spells. requests_spelled c.args.key c.events_in-events.result parts (c.events_in-events.ensures.events parts spells)
