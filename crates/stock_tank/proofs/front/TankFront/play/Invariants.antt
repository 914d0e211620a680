-- What was asked so far is played, and what is left follows.
use Rattle.std.proofs.Common.{◌≡◌, ℕ, ◌≤◌, List, ◌++◌, length, pos}
use Rattle.stock_tank.specs.Levels.{sets_in, jobs_for}
use Rattle.stock_tank.specs.Playing.{steps, playing, block_of, AreTimed, HasPlayed, Told}
use Rattle.stock_tank.proofs.front.TankFront.play.Given as goal

abbrev pub invariant-loop-time : goal.invariant-loop-time
invariant-loop-time g l = record {
  played : HasPlayed l.initial.ports l.ports (playing l.self.level l.from l.ports);
  goes : steps l.initial.self.key (playing l.self.level l.from l.ports) l.requests ≡ steps l.initial.self.key (playing l.initial.self.level 0 l.initial.ports) l.initial.requests;
  front : l.self ≡ record l.initial.self { level = l.self.level };
  within : l.from ≤ length (block_of l.initial.ports);
  times : AreTimed (pos l.from) (length (block_of l.initial.ports)) l.requests;
  told : (jobs : List (List ℕ)) × Told g.S.Sched.went l.initial.sched jobs l.sched × (jobs ++ jobs_for (sets_in l.requests) ≡ jobs_for (sets_in l.initial.requests));
}
