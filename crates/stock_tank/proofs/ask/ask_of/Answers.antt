use Rattle.stock_tank.proofs.Asking.{ask_read, ask_none}
use Rattle.stock_tank.proofs.ask.ask_of.Goals as goal

pub returns-in-Ok : goal.returns-in-Ok
returns-in-Ok c = λ v spells. ask_read c.args.key c.in-Ok.message c.says.result v spells.fits (c.in-Ok.ensures v spells) c.says.ensures

pub returns-in-Err : goal.returns-in-Err
returns-in-Err c = λ v spells. ask_none c.args.key _ v (c.in-Err.ensures v spells)
