-- The next ticket is above all that were drawn.
use Rattle.std.proofs.Common.{◌-◌, arith}
use Rattle.step_record.proofs.Counts.{numbers-below}
use Rattle.step_record.proofs.count.CountTickets.draw.Goals as goal

pub returns-clause-above : goal.returns-clause-above
returns-clause-above c = rw (← c.self.view_is) (numbers-below c.self.inside.first (c.self.inside.next - c.self.inside.first) c.self.inside.next (omega arith))
