-- The bodies that wait on the rings of a run, as they are kept: jobs, responses and the jobs of restores for each instance, and what audio
-- sent to control. No other ring carries bodies.
use Rattle.std.specs.Prelude.{◌≡◌, ℕ, ◌==◌, if◌then◌else◌, List, slice_get, Some}
use Rattle.step_law.specs.declared.ring.Ring.{Ring}
use Rattle.step_law.specs.declared.ring.Ring.TheVariants.{AudioToControl, Jobs, Responses, LocalJobs}
use Rattle.step_law.specs.Ring.{ring_number}
use Rattle.held_bodies.specs.declared.bodies.Bodies.{Bodies}
use Rattle.held_bodies.specs.declared.bodies.InstBodies.{InstBodies}

-- those of an instance are these
pub record AreBodies (waiting : Ring → List (List ℕ)) (inst : ℕ) (it : InstBodies) : Type 0 where
  pub are_jobs : waiting (Jobs inst) ≡ it.jobs.items
  pub are_responses : waiting (Responses inst) ≡ it.responses.items
  pub are_local : waiting (LocalJobs inst) ≡ it.local.items

-- all of them
pub record ShowBodies (waiting : Ring → List (List ℕ)) (bodies : Bodies) : Type 0 where
  pub kept : (inst : ℕ) (it : InstBodies) → slice_get bodies.each.items inst ≡ Some it → AreBodies waiting inst it
  pub are_replies : waiting AudioToControl ≡ bodies.replies.items

-- what waits on the ring with a number has changed
abbrev pub changed_on : ℕ → (List (List ℕ) → List (List ℕ)) → (Ring → List (List ℕ)) → Ring → List (List ℕ)
changed_on number change waiting ring = if number == ring_number ring then change (waiting ring) else waiting ring
