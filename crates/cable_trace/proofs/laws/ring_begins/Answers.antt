use Rattle.std.proofs.Common.{[], refl, arith}
use Rattle.cable_trace.proofs.Orders.{order_fresh}
use Rattle.cable_trace.proofs.laws.ring_begins.Goals as goal

pub returns : goal.returns
returns g c = λ cells ring. record {
  shows = record { rest = []; is = refl };
  moves = record { rest = []; is = refl };
  room = omega arith;
  order = order_fresh cells;
}
