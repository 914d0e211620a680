-- How a trace goes on, and what a step leaves as it was.
use Rattle.std.specs.Prelude.{◌≡◌, ℕ, ◌<◌, Bool, false, ◌==◌, [], ◌∷◌, ◌++◌, All}
use Rattle.cable_trace.specs.declared.trace.Action.{Action}
use Rattle.cable_trace.specs.declared.trace.Action.TheVariants.{Sent, Refused, Looked, Taken}
use Rattle.cable_trace.specs.declared.trace.Pending.{Pending}
use Rattle.cable_trace.specs.declared.trace.Pending.TheVariants.{Idle}
use Rattle.cable_trace.specs.declared.trace.Trace.{Trace}
use Rattle.cable_trace.specs.Trace.{sent, refused, looks, taken, shown, moved}

-- an actor that has done nothing
abbrev pub fresh : {M : Type 0} → Trace M
fresh = record { events = []; pending = Idle }

-- the actor is in the midst of something
abbrev pub with_pending : {M : Type 0} → Trace M → Pending M → Trace M
with_pending trace pending = record { events = trace.events; pending = pending }

-- the actor has finished a step
abbrev pub with_event : {M : Type 0} → Trace M → ℕ → Action M → Trace M
with_event trace ticket action = record { events = trace.events ++ record { ticket = ticket; action = action } ∷ []; pending = Idle }

-- a ticket is above those of all that an actor has finished
abbrev pub IsAbove : {M : Type 0} → ℕ → Trace M → Type 0
IsAbove ticket trace = All (λ event. event.ticket < ticket) trace.events

-- a ticket is above those of all sends and refusals on a ring, or of all looks and takes
pub record IsAboveSends {M : Type 0} (ring ticket : ℕ) (sender : Trace M) : Type 0 where
  pub sends : All (λ send. send.0 < ticket) (sent ring sender)
  pub refusals : All (λ refusal. refusal.0 < ticket) (refused ring sender)

pub record IsAboveTakes {M : Type 0} (ring ticket : ℕ) (taker : Trace M) : Type 0 where
  pub seen : All (λ look. look.0 < ticket) (looks ring taker)
  pub takes : All (λ take. take.0 < ticket) (taken ring taker)

-- a step sends nothing on a ring and isn't refused there
pub record SendsNothing {M : Type 0} (ring : ℕ) (old new : Trace M) : Type 0 where
  pub sends : sent ring new ≡ sent ring old
  pub refusals : refused ring new ≡ refused ring old

-- a step neither looks at a ring nor takes from it
pub record TakesNothing {M : Type 0} (ring : ℕ) (old new : Trace M) : Type 0 where
  pub seen : looks ring new ≡ looks ring old
  pub shows : shown ring new ≡ shown ring old
  pub takes : taken ring new ≡ taken ring old
  pub moves : moved ring new ≡ moved ring old

-- whether an action sends on a ring or is refused there, and whether it looks at a ring or takes from it
abbrev pub sends_on : {M : Type 0} → ℕ → Action M → Bool
sends_on ring (Sent on seen message) = on == ring
sends_on ring (Refused on seen) = on == ring
sends_on ring action = false

abbrev pub takes_on : {M : Type 0} → ℕ → Action M → Bool
takes_on ring (Looked on count messages) = on == ring
takes_on ring (Taken on message) = on == ring
takes_on ring action = false
