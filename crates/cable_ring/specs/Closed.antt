-- A cable at the end.
use Rattle.std.specs.Prelude.{◌≡◌, ℕ, zero, suc, ◌<◌, List, [], ◌∷◌, length, map, drop}
use mathlib.Core.Option.{some}
use lib.ListN.{get_elem?}
use Rattle.atomic_table.specs.Seated.{TableId}
use Rattle.cable_trace.specs.declared.trace.Trace.{Trace}
use Rattle.cable_trace.specs.Trace.{drawn, sent, taken}
use Rattle.cable_trace.specs.Step.{fresh}
use Rattle.cable_trace.specs.Ring.{messages, RingHolds}
use Rattle.cable_trace.specs.Beat.{BeatHolds}
use Rattle.cable_trace.specs.Logs.{IsRingOf}
use Rattle.cable_ring.specs.declared.view.RingSpec.{RingSpec}
use Rattle.cable_ring.specs.declared.view.Plan.{Plan}
use Rattle.cable_ring.specs.Drawn.{AreTickets}
use Rattle.cable_ring.specs.Passes.{PassView, trace_at}

-- these are the tokens of all actors of a cable, in order
pub record AreAllPasses {M : Type 0} (table : TableId) (plan : Plan) (passes : List (PassView M)) : Type 0 where
  pub all : length passes ≡ plan.actors
  pub each : (actor : ℕ) (pass : PassView M) → get_elem? passes actor ≡ some pass → (pass.table ≡ table) × (pass.actor ≡ actor)

-- what each actor did, by the tokens of all
abbrev pub traces_of : {M : Type 0} → List (PassView M) → ℕ → Trace M
traces_of [] actor = fresh
traces_of (pass ∷ passes) zero = trace_at pass
traces_of (pass ∷ passes) (suc actor) = traces_of passes actor

-- of each ring the messages that its sender sent and its taker did not take are left, in order
pub record AreLeft {M : Type 0} (plan : Plan) (traces : ℕ → Trace M) (left : List (List M)) : Type 0 where
  pub all : length left ≡ length plan.rings
  pub each : (ring : ℕ) (spec : RingSpec) (row : List M) → get_elem? plan.rings ring ≡ some spec → get_elem? left ring ≡ some row
      → row ≡ drop (length (taken ring (traces spec.to))) (messages (sent ring (traces spec.from)))

-- What the rule says of all that the actors did: their tickets, up to the next one; each ring; and the beat.
pub record IsKept {M : Type 0} (plan : Plan) (next : ℕ) (traces : ℕ → Trace M) : Type 0 where
  pub tickets : AreTickets plan.first plan.actors next (λ actor. drawn (traces actor))
  pub rings : (ring : ℕ) (spec : RingSpec) → get_elem? plan.rings ring ≡ some spec → RingHolds plan.cells ring (traces spec.from) (traces spec.to)
  -- one actor alone sends on a ring, and one alone takes from it
  pub ends : (ring : ℕ) (spec : RingSpec) → get_elem? plan.rings ring ≡ some spec → IsRingOf ring spec.from spec.to traces
  pub beat : BeatHolds (traces 0) (traces 1)
