-- What is kept shows what waits, as it changes on one ring.
use Rattle.std.specs.Prelude.{◌≡◌, ◌⊎◌, ℕ, ◌<◌, ◌≤◌, List, slice_get, slice_set, Some}
use Rattle.step_law.specs.declared.ring.Ring.{Ring}
use Rattle.step_law.specs.declared.ring.Ring.TheVariants.{AudioToControl, Jobs, Responses, LocalJobs}
use Rattle.step_law.specs.Ring.{ring_number}
use Rattle.held_bodies.specs.declared.bodies.Bodies.{Bodies}
use Rattle.held_bodies.specs.declared.bodies.InstBodies.{InstBodies}
use Rattle.held_bodies.specs.Waiting.{ShowBodies, changed_on}

-- the bodies of one instance are others
pub record ChangesOne (bodies after : Bodies) (inst : ℕ) (it then_it : InstBodies) : Type 0 where
  pub here : slice_get bodies.each.items inst ≡ Some it
  pub each : after.each.items ≡ slice_set bodies.each.items inst then_it
  pub replies : after.replies ≡ bodies.replies

-- on the ring of its jobs, of its responses, of its local jobs
abbrev pub JobsChange : Type 0
JobsChange = (waiting : Ring → List (List ℕ)) (bodies after : Bodies) (inst : ℕ) (it then_it : InstBodies) (change : List (List ℕ) → List (List ℕ))
    → ShowBodies waiting bodies → ChangesOne bodies after inst it then_it → then_it.jobs.items ≡ change it.jobs.items → then_it.responses ≡ it.responses
    → then_it.local ≡ it.local → ShowBodies (changed_on (ring_number (Jobs inst)) change waiting) after

abbrev pub ResponsesChange : Type 0
ResponsesChange = (waiting : Ring → List (List ℕ)) (bodies after : Bodies) (inst : ℕ) (it then_it : InstBodies) (change : List (List ℕ) → List (List ℕ))
    → ShowBodies waiting bodies → ChangesOne bodies after inst it then_it → then_it.responses.items ≡ change it.responses.items → then_it.jobs ≡ it.jobs
    → then_it.local ≡ it.local → ShowBodies (changed_on (ring_number (Responses inst)) change waiting) after

abbrev pub LocalJobsChange : Type 0
LocalJobsChange = (waiting : Ring → List (List ℕ)) (bodies after : Bodies) (inst : ℕ) (it then_it : InstBodies) (change : List (List ℕ) → List (List ℕ))
    → ShowBodies waiting bodies → ChangesOne bodies after inst it then_it → then_it.local.items ≡ change it.local.items → then_it.jobs ≡ it.jobs
    → then_it.responses ≡ it.responses → ShowBodies (changed_on (ring_number (LocalJobs inst)) change waiting) after

-- what audio sent to control
abbrev pub RepliesChange : Type 0
RepliesChange = (waiting : Ring → List (List ℕ)) (bodies after : Bodies) (change : List (List ℕ) → List (List ℕ)) → ShowBodies waiting bodies
    → after.each ≡ bodies.each → after.replies.items ≡ change bodies.replies.items → ShowBodies (changed_on (ring_number AudioToControl) change waiting) after

-- any other ring: it carries no bodies
abbrev pub OthersStay : Type 0
OthersStay = (waiting : Ring → List (List ℕ)) (bodies : Bodies) (number : ℕ) (change : List (List ℕ) → List (List ℕ)) → ShowBodies waiting bodies
    → (number ≡ 0) ⊎ ((2 ≤ number) × (number < 18)) → ShowBodies (changed_on number change waiting) bodies
