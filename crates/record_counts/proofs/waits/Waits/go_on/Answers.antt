use Rattle.std.proofs.Common.{ap, ⊎_elim}
use Rattle.record_counts.specs.Waits.{is_of_call}
use Rattle.record_counts.proofs.waits.Waits.go_on.Goals as goal

pub returns-in-Begin : goal.returns-in-Begin
returns-in-Begin c shape h about told = c.note_call.ensures shape h about (⊎_elim (λ is. ap is_of_call is) (λ is. ap is_of_call is) c.in-Begin.is) told

pub returns-in-Stop : goal.returns-in-Stop
returns-in-Stop c shape h about told = c.note_stop.ensures shape h about c.in-Stop.is told

pub returns-in-Join : goal.returns-in-Join
returns-in-Join c shape h about told = c.note_join.ensures shape h about c.in-Join.is told
