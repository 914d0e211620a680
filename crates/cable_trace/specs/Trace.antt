-- What an actor's trace tells of its tickets, and of a ring.
use Rattle.std.specs.Prelude.{ℕ, ◌==◌, if◌then◌else◌, List, [], ◌∷◌, ◌++◌, map, flat_map}
use Rattle.cable_trace.specs.declared.trace.Action.{Action}
use Rattle.cable_trace.specs.declared.trace.Action.TheVariants.{Sent, Refused, Looked, Taken}
use Rattle.cable_trace.specs.declared.trace.Pending.{Pending}
use Rattle.cable_trace.specs.declared.trace.Pending.TheVariants.{Drew, Putting, Took}
use Rattle.cable_trace.specs.declared.trace.Trace.{Trace}

-- the ticket that was drawn for what is pending
abbrev pub pending_ticket : {M : Type 0} → Pending M → List ℕ
pending_ticket (Drew ticket) = ticket ∷ []
pending_ticket (Putting ring ticket seen) = ticket ∷ []
pending_ticket pending = []

-- all tickets that the actor drew
abbrev pub drawn : {M : Type 0} → Trace M → List ℕ
drawn trace = map (λ event. event.ticket) trace.events ++ pending_ticket trace.pending

-- what an action sent on a ring
abbrev pub sent_by : {M : Type 0} → ℕ → ℕ → Action M → List (ℕ × M)
sent_by ring ticket (Sent on seen message) = if on == ring then (ticket, message) ∷ [] else []
sent_by ring ticket action = []

-- the refusal of an action on a ring: how many it saw taken
abbrev pub refused_by : {M : Type 0} → ℕ → ℕ → Action M → List (ℕ × ℕ)
refused_by ring ticket (Refused on seen) = if on == ring then (ticket, seen) ∷ [] else []
refused_by ring ticket action = []

-- the look of an action at a ring: how many it saw sent
abbrev pub looked_by : {M : Type 0} → ℕ → ℕ → Action M → List (ℕ × ℕ)
looked_by ring ticket (Looked on count messages) = if on == ring then (ticket, count) ∷ [] else []
looked_by ring ticket action = []

-- what that look showed for the first time
abbrev pub shown_by : {M : Type 0} → ℕ → Action M → List M
shown_by ring (Looked on count messages) = if on == ring then messages else []
shown_by ring action = []

-- what an action took from a ring
abbrev pub taken_by : {M : Type 0} → ℕ → ℕ → Action M → List (ℕ × M)
taken_by ring ticket (Taken on message) = if on == ring then (ticket, message) ∷ [] else []
taken_by ring ticket action = []

-- the message that has left a ring without a ticket yet
abbrev pub taken_before_ticket : {M : Type 0} → ℕ → Pending M → List M
taken_before_ticket ring (Took on message) = if on == ring then message ∷ [] else []
taken_before_ticket ring pending = []

-- the same of all events, in order, each with its ticket
abbrev pub sent : {M : Type 0} → ℕ → Trace M → List (ℕ × M)
sent ring trace = flat_map (λ event. sent_by ring event.ticket event.action) trace.events

abbrev pub refused : {M : Type 0} → ℕ → Trace M → List (ℕ × ℕ)
refused ring trace = flat_map (λ event. refused_by ring event.ticket event.action) trace.events

abbrev pub looks : {M : Type 0} → ℕ → Trace M → List (ℕ × ℕ)
looks ring trace = flat_map (λ event. looked_by ring event.ticket event.action) trace.events

abbrev pub taken : {M : Type 0} → ℕ → Trace M → List (ℕ × M)
taken ring trace = flat_map (λ event. taken_by ring event.ticket event.action) trace.events

-- the messages that its looks have shown, and those that it has moved out
abbrev pub shown : {M : Type 0} → ℕ → Trace M → List M
shown ring trace = flat_map (λ event. shown_by ring event.action) trace.events

abbrev pub moved : {M : Type 0} → ℕ → Trace M → List M
moved ring trace = map (λ pair. pair.1) (taken ring trace) ++ taken_before_ticket ring trace.pending
