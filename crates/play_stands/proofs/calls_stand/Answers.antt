use Rattle.play_stands.proofs.Calls.{call_stands}
use Rattle.play_stands.proofs.calls_stand.Goals as goal

pub returns : goal.returns
returns g c = call_stands
