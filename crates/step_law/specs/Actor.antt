-- The actors: their numbers and names.
use Rattle.std.specs.Prelude.{ℕ, zero, suc, ◌+◌, List, ◌++◌, codes, decimal}
use Rattle.step_law.specs.declared.actor.Actor.{Actor}
use Rattle.step_law.specs.declared.actor.Actor.TheVariants.{Audio, Control, Worker}

-- the number of an actor in an entry
abbrev pub actor_number : Actor → ℕ
actor_number Audio = 0
actor_number Control = 1
actor_number (Worker worker) = 1 + worker

-- the actor with a number
abbrev pub actor_at : ℕ → Actor
actor_at zero = Audio
actor_at (suc zero) = Control
actor_at (suc (suc n)) = Worker (suc n)

-- how a line names an actor
abbrev pub actor_name : Actor → List ℕ
actor_name Audio = codes "A"
actor_name Control = codes "C"
actor_name (Worker worker) = codes "W" ++ decimal worker
