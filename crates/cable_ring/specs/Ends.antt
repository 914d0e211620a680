-- The ends of a ring, and what an actor may do.
use Rattle.std.specs.Prelude.{◌≡◌, ℕ, zero, suc, List, [], ◌∷◌, All}
use Rattle.cable_trace.specs.declared.trace.Action.{Action}
use Rattle.cable_trace.specs.declared.trace.Action.TheVariants.{Marked, Sent, Refused, Looked, Taken, Stored, Loaded}
use Rattle.cable_trace.specs.declared.trace.Trace.{Trace}
use Rattle.cable_ring.specs.declared.view.RingSpec.{RingSpec}

-- the number of a ring's sender, or of its taker, and one; 0 where there is no such ring
abbrev pub sender_at : List RingSpec → ℕ → ℕ
sender_at [] ring = 0
sender_at (spec ∷ rings) zero = suc spec.from
sender_at (spec ∷ rings) (suc ring) = sender_at rings ring

abbrev pub taker_at : List RingSpec → ℕ → ℕ
taker_at [] ring = 0
taker_at (spec ∷ rings) zero = suc spec.to
taker_at (spec ∷ rings) (suc ring) = taker_at rings ring

-- an actor sends only on rings from it, and looks at and takes only from rings to it; actor 0 alone stores the beat, and actor 1 alone loads it
abbrev pub IsOwn : {M : Type 0} → List RingSpec → ℕ → Action M → Type 0
IsOwn rings actor Marked = Unit {0}
IsOwn rings actor (Sent ring seen message) = sender_at rings ring ≡ suc actor
IsOwn rings actor (Refused ring seen) = sender_at rings ring ≡ suc actor
IsOwn rings actor (Looked ring total messages) = taker_at rings ring ≡ suc actor
IsOwn rings actor (Taken ring message) = taker_at rings ring ≡ suc actor
IsOwn rings actor (Stored number) = actor ≡ 0
IsOwn rings actor (Loaded number) = actor ≡ 1

-- all that an actor did was its own to do
abbrev pub DidOwn : {M : Type 0} → List RingSpec → ℕ → Trace M → Type 0
DidOwn rings actor trace = All (λ event. IsOwn rings actor event.action) trace.events
