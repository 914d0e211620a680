-- The jobs that a thread-safe restore schedules: a queue of the worker's own, with as much room as a ring between threads has.
use Rattle.std.specs.Prelude.{ℕ, List, [], ◌∷◌, ◌++◌}

-- the bodies of the jobs, the oldest first, and how many there may be
pub record Jobs : Type 0 where
  pub cells : ℕ
  pub jobs : List (List ℕ)

-- the queue with one job more, after all others
abbrev pub with_job : Jobs → List ℕ → Jobs
with_job queue job = record queue { jobs = queue.jobs ++ job ∷ [] }
