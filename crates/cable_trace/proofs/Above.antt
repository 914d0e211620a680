-- A ticket above all that an actor has finished is above what it did on a ring.
use Rattle.std.proofs.Common.{ℕ, ◌<◌, ◌==◌, List, [], ◌∷◌, ◌++◌, map}
use Rattle.std.specs.List.{All}
use Rattle.std.proofs.lemmas.List.Elements.{All-nil, All-cons, All-head, All-tail}
use Rattle.cable_trace.specs.declared.trace.Action.{Action}
use Rattle.cable_trace.specs.declared.trace.Action.TheVariants.{Sent, Refused, Looked, Taken}
use Rattle.cable_trace.specs.declared.trace.Event.{Event}
use Rattle.cable_trace.specs.declared.trace.Trace.{Trace}
use Rattle.cable_trace.specs.Trace.{pending_ticket, drawn, sent_by, sent, refused_by, looked_by, taken_by}
use Rattle.cable_trace.specs.Step.{IsAbove, IsAboveSends, IsAboveTakes}
use Rattle.cable_trace.proofs.Tells.{told_all, all_if}

module _ {M : Type 0} (ring ticket : ℕ) where
  one_sent : (t : ℕ) (action : Action M) → t < ticket → All (λ pair. pair.0 < ticket) (sent_by ring t action)
  one_sent t (Sent on seen message) h = let pair : ℕ × M = (t, message) in all_if (λ x. x.0 < ticket) (on == ring) pair h
  one_sent t action h = All-nil (λ pair. pair.0 < ticket)

  -- all that holds of the tickets that an actor drew holds of those of its sends
  sent_where : (P : ℕ → Type 0) (t : ℕ) (action : Action M) → P t → All (λ pair. P pair.0) (sent_by ring t action)
  sent_where P t (Sent on seen message) h = let pair : ℕ × M = (t, message) in all_if (λ x. P x.0) (on == ring) pair h
  sent_where P t action h = All-nil (λ pair. P pair.0)

  pub all_sent : (P : ℕ → Type 0) (trace : Trace M) → All P (drawn trace) → All (λ pair. P pair.0) (sent ring trace)
  all_sent P trace h =
      told_all (λ event. P event.ticket) (λ pair. P pair.0) (λ event. sent_by ring event.ticket event.action) (λ event k. sent_where P event.ticket event.action k)
      trace.events (events_in trace.events (pending_ticket trace.pending) h)
    where
      events_in : (events : List (Event M)) (more : List ℕ) → All P (map (λ event. event.ticket) events ++ more) → All (λ event. P event.ticket) events
      events_in [] more k = All-nil (λ event. P event.ticket)
      events_in (event ∷ events) more k =
          All-cons (λ x. P x.ticket) event events (All-head P event.ticket (map (λ x. x.ticket) events ++ more) k)
          (events_in events more (All-tail P event.ticket (map (λ x. x.ticket) events ++ more) k))

  one_refused : (t : ℕ) (action : Action M) → t < ticket → All (λ pair. pair.0 < ticket) (refused_by ring t action)
  one_refused t (Refused on seen) h = let pair : ℕ × ℕ = (t, seen) in all_if (λ x. x.0 < ticket) (on == ring) pair h
  one_refused t action h = All-nil (λ pair. pair.0 < ticket)

  one_looked : (t : ℕ) (action : Action M) → t < ticket → All (λ pair. pair.0 < ticket) (looked_by ring t action)
  one_looked t (Looked on count messages) h = let pair : ℕ × ℕ = (t, count) in all_if (λ x. x.0 < ticket) (on == ring) pair h
  one_looked t action h = All-nil (λ pair. pair.0 < ticket)

  one_taken : (t : ℕ) (action : Action M) → t < ticket → All (λ pair. pair.0 < ticket) (taken_by ring t action)
  one_taken t (Taken on message) h = let pair : ℕ × M = (t, message) in all_if (λ x. x.0 < ticket) (on == ring) pair h
  one_taken t action h = All-nil (λ pair. pair.0 < ticket)

  pub above_sends : (trace : Trace M) → IsAbove ticket trace → IsAboveSends ring ticket trace
  above_sends trace above = record {
    sends = told_all (λ event. event.ticket < ticket) (λ pair. pair.0 < ticket) (λ event. sent_by ring event.ticket event.action) (λ event h. one_sent event.ticket event.action h) trace.events above;
    refusals = told_all (λ event. event.ticket < ticket) (λ pair. pair.0 < ticket) (λ event. refused_by ring event.ticket event.action) (λ event h. one_refused event.ticket event.action h) trace.events above;
  }

  pub above_takes : (trace : Trace M) → IsAbove ticket trace → IsAboveTakes ring ticket trace
  above_takes trace above = record {
    seen = told_all (λ event. event.ticket < ticket) (λ pair. pair.0 < ticket) (λ event. looked_by ring event.ticket event.action) (λ event h. one_looked event.ticket event.action h) trace.events above;
    takes = told_all (λ event. event.ticket < ticket) (λ pair. pair.0 < ticket) (λ event. taken_by ring event.ticket event.action) (λ event h. one_taken event.ticket event.action h) trace.events above;
  }
