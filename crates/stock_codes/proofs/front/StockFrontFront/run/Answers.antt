-- A run of burst or tank makes its attempts as one of the stock fronts.
use Rattle.std.proofs.Common.{refl}
use Rattle.stock_jobs.specs.Burst.{burst_front}
use Rattle.stock_tank.specs.Tank.{tank_front}
use Rattle.stock_codes.specs.Fronts.{front_run}
use Rattle.stock_codes.specs.declared.front.StockFront.TheVariants.{Burst, Tank}
use Rattle.stock_codes.proofs.Wrapping.{runs_wrapped}
use Rattle.stock_codes.proofs.front.StockFrontFront.run.Goals as goal

pub returns-in-Burst-clause-ran : goal.returns-in-Burst-clause-ran
returns-in-Burst-clause-ran g c =
    rw c.in-Burst.is
    (runs_wrapped Burst burst_front.run front_run g.S.Sched.went c.in-Burst.front c.run-in-Burst.new.self c.args.ports.now
    c.run-in-Burst.new.ports c.args.sched.now c.run-in-Burst.new.sched refl c.run-in-Burst.ensures.ran)

pub returns-in-Tank-clause-ran : goal.returns-in-Tank-clause-ran
returns-in-Tank-clause-ran g c =
    rw c.in-Tank.is
    (runs_wrapped Tank tank_front.run front_run g.S.Sched.went c.in-Tank.front c.run-in-Tank.new.self c.args.ports.now
    c.run-in-Tank.new.ports c.args.sched.now c.run-in-Tank.new.sched refl c.run-in-Tank.ensures.ran)
