-- A step leaves the other side of a ring and all other rings as they were.
use Rattle.std.proofs.Common.{◌≡◌, ℕ, Bool, false, ◌==◌, if◌then◌else◌, List, [], ◌∷◌, ◌++◌, refl, sym, ap, ◌∙◌}
use Rattle.std.specs.Prelude.{flat_map}
use Rattle.std.proofs.lemmas.List.{append-nil}
use Rattle.cable_trace.specs.declared.trace.Action.{Action}
use Rattle.cable_trace.specs.declared.trace.Action.TheVariants.{Marked, Sent, Refused, Looked, Taken, Stored, Loaded}
use Rattle.cable_trace.specs.declared.trace.Event.{Event}
use Rattle.cable_trace.specs.declared.trace.Pending.{Pending}
use Rattle.cable_trace.specs.declared.trace.Trace.{Trace}
use Rattle.cable_trace.specs.Trace.{taken_before_ticket, sent_by, refused_by, looked_by, shown_by, taken_by, taken}
use Rattle.cable_trace.specs.Step.{with_pending, with_event, SendsNothing, TakesNothing, sends_on, takes_on}
use Rattle.cable_trace.specs.Ring.{messages}
use Rattle.cable_trace.proofs.Tells.{told_more}

-- what the other branch of a choice gives
other : {X : Type 0} (b : Bool) (here there : X) → b ≡ false → (if b then here else there) ≡ there
other b here there e = ap (λ x. if x then here else there) e

-- an event that tells nothing leaves what all tell
pub told_same : {X Y : Type 0} (tells : X → List Y) (events : List X) (event : X) → tells event ≡ [] → flat_map tells (events ++ event ∷ []) ≡ flat_map tells events
told_same tells events event e = told_more tells events event ∙ ap (λ l. flat_map tells events ++ l) e ∙ append-nil (flat_map tells events)

module _ {M : Type 0} (ring ticket : ℕ) where
  no_sent : (action : Action M) → sends_on ring action ≡ false → sent_by ring ticket action ≡ []
  no_sent (Sent on seen message) e = other (on == ring) ((ticket, message) ∷ []) [] e
  no_sent Marked e = refl
  no_sent (Stored number) e = refl
  no_sent (Loaded number) e = refl
  no_sent (Refused on seen) e = refl
  no_sent (Looked on count messages) e = refl
  no_sent (Taken on message) e = refl

  no_refused : (action : Action M) → sends_on ring action ≡ false → refused_by ring ticket action ≡ []
  no_refused (Refused on seen) e = other (on == ring) ((ticket, seen) ∷ []) [] e
  no_refused Marked e = refl
  no_refused (Stored number) e = refl
  no_refused (Loaded number) e = refl
  no_refused (Sent on seen message) e = refl
  no_refused (Looked on count messages) e = refl
  no_refused (Taken on message) e = refl

  no_looked : (action : Action M) → takes_on ring action ≡ false → looked_by ring ticket action ≡ []
  no_looked (Looked on count messages) e = other (on == ring) ((ticket, count) ∷ []) [] e
  no_looked Marked e = refl
  no_looked (Stored number) e = refl
  no_looked (Loaded number) e = refl
  no_looked (Sent on seen message) e = refl
  no_looked (Refused on seen) e = refl
  no_looked (Taken on message) e = refl

  no_shown : (action : Action M) → takes_on ring action ≡ false → shown_by ring action ≡ []
  no_shown (Looked on count messages) e = other (on == ring) messages [] e
  no_shown Marked e = refl
  no_shown (Stored number) e = refl
  no_shown (Loaded number) e = refl
  no_shown (Sent on seen message) e = refl
  no_shown (Refused on seen) e = refl
  no_shown (Taken on message) e = refl

  no_taken : (action : Action M) → takes_on ring action ≡ false → taken_by ring ticket action ≡ []
  no_taken (Taken on message) e = other (on == ring) ((ticket, message) ∷ []) [] e
  no_taken Marked e = refl
  no_taken (Stored number) e = refl
  no_taken (Loaded number) e = refl
  no_taken (Sent on seen message) e = refl
  no_taken (Refused on seen) e = refl
  no_taken (Looked on count messages) e = refl

  pub event_sends : (trace : Trace M) (action : Action M) → sends_on ring action ≡ false → SendsNothing ring trace (with_event trace ticket action)
  event_sends trace action e =
      let event : Event M = record { ticket = ticket; action = action } in
      record {
        sends = told_same (λ x. sent_by ring x.ticket x.action) trace.events event (no_sent action e);
        refusals = told_same (λ x. refused_by ring x.ticket x.action) trace.events event (no_refused action e);
      }

  pub event_takes : (trace : Trace M) (action : Action M) → takes_on ring action ≡ false → taken_before_ticket ring trace.pending ≡ []
      → TakesNothing ring trace (with_event trace ticket action)
  event_takes trace action e none =
      let event : Event M = record { ticket = ticket; action = action } in
      let takes : taken ring (with_event trace ticket action) ≡ taken ring trace = told_same (λ x. taken_by ring x.ticket x.action) trace.events event (no_taken action e) in
      record {
        seen = told_same (λ x. looked_by ring x.ticket x.action) trace.events event (no_looked action e);
        shows = told_same (λ x. shown_by ring x.action) trace.events event (no_shown action e);
        takes = takes;
        moves = ap (λ l. messages l ++ []) takes ∙ ap (λ l. messages (taken ring trace) ++ l) (sym none);
      }

module _ {M : Type 0} (ring : ℕ) where
  pub pending_takes : (trace : Trace M) (pending : Pending M) → taken_before_ticket ring pending ≡ taken_before_ticket ring trace.pending
      → TakesNothing ring trace (with_pending trace pending)
  pending_takes trace pending e = record { seen = refl; shows = refl; takes = refl; moves = ap (λ l. messages (taken ring trace) ++ l) e }
