-- What a trace tells after one more event.
use Rattle.std.proofs.Common.{◌≡◌, ℕ, ◌<◌, ◌≤◌, Bool, true, false, ◌==◌, if◌then◌else◌, List, [], ◌∷◌, ◌++◌, map, refl, sym, ap, subst, ◌∙◌, arith}
use Rattle.std.specs.Prelude.{flat_map}
use Rattle.std.specs.List.{All}
use Rattle.std.proofs.lemmas.Bool.{eq-eqb}
use Rattle.std.proofs.lemmas.Grind.{flat_map-append}
use Rattle.std.proofs.lemmas.List.{append-nil, map-append}
use Rattle.std.proofs.lemmas.List.Elements.{All-nil, All-cons, All-head, All-tail, All-append, All-push}
use Rattle.cable_trace.specs.declared.trace.Action.{Action}
use Rattle.cable_trace.specs.declared.trace.Event.{Event}
use Rattle.cable_trace.specs.declared.trace.Pending.TheVariants.{Drew}
use Rattle.cable_trace.specs.declared.trace.Trace.{Trace}
use Rattle.cable_trace.specs.Trace.{pending_ticket, drawn}
use Rattle.cable_trace.specs.Step.{with_pending, with_event, IsAbove}

-- the choice at a ring's own number
pub same_ring : {X : Type 0} (ring : ℕ) (here there : X) → (if ring == ring then here else there) ≡ here
same_ring ring here there = ap (λ b. if b then here else there) (eq-eqb ring ring refl)

-- a list of all that each event tells, with one more event
pub told_more : {X Y : Type 0} (tells : X → List Y) (events : List X) (event : X)
    → flat_map tells (events ++ event ∷ []) ≡ flat_map tells events ++ tells event
told_more tells events event = flat_map-append tells events (event ∷ []) ∙ ap (λ l. flat_map tells events ++ l) (append-nil (tells event))

-- what holds of all that each event tells
pub told_all : {X Y : Type 0} (P : X → Type 0) (Q : Y → Type 0) (tells : X → List Y) → ((x : X) → P x → All Q (tells x))
    → (events : List X) → All P events → All Q (flat_map tells events)
told_all P Q tells each [] h = All-nil Q
told_all P Q tells each (x ∷ events) h =
    All-append Q (tells x) (flat_map tells events) (each x (All-head P x events h)) (told_all P Q tells each events (All-tail P x events h))

-- what holds of the first parts of pairs
pub all_firsts : {Y : Type 0} (P : ℕ → Type 0) (pairs : List (ℕ × Y)) → All (λ pair. P pair.0) pairs → All P (map (λ pair. pair.0) pairs)
all_firsts P [] h = All-nil P
all_firsts {Y} P (pair ∷ pairs) h =
    let Q : ℕ × Y → Type 0 = λ x. P x.0 in
    All-cons P pair.0 (map (λ x. x.0) pairs) (All-head Q pair pairs h) (all_firsts P pairs (All-tail Q pair pairs h))

-- one or none, by the ring
pub all_if : {Y : Type 0} (P : Y → Type 0) (b : Bool) (y : Y) → P y → All P (if b then y ∷ [] else [])
all_if P true y h = All-cons P y [] h (All-nil P)
all_if P false y h = All-nil P

module _ {M : Type 0} where
  -- with the ticket that was pending the tickets are the same, without one there is one more
  pub drawn_same : (trace : Trace M) (ticket : ℕ) (action : Action M) → pending_ticket trace.pending ≡ ticket ∷ [] → drawn (with_event trace ticket action) ≡ drawn trace
  drawn_same trace ticket action e =
      append-nil (map (λ event. event.ticket) (trace.events ++ record { ticket = ticket; action = action } ∷ []))
      ∙ map-append (λ event. event.ticket) trace.events (record { ticket = ticket; action = action } ∷ [])
      ∙ ap (λ l. map (λ event. event.ticket) trace.events ++ l) (sym e)

  pub drawn_more : (trace : Trace M) (ticket : ℕ) (action : Action M) → pending_ticket trace.pending ≡ [] → drawn (with_event trace ticket action) ≡ drawn trace ++ ticket ∷ []
  drawn_more trace ticket action e =
      append-nil (map (λ event. event.ticket) (trace.events ++ record { ticket = ticket; action = action } ∷ []))
      ∙ map-append (λ event. event.ticket) trace.events (record { ticket = ticket; action = action } ∷ [])
      ∙ ap (λ l. l ++ ticket ∷ []) (sym (append-nil (map (λ event. event.ticket) trace.events)) ∙ ap (λ l. map (λ event. event.ticket) trace.events ++ l) (sym e))

  -- the pending ticket is the last
  pub drawn-le : (trace : Trace M) (ticket : ℕ) → pending_ticket trace.pending ≡ ticket ∷ [] → IsAbove ticket trace → All (λ t. t ≤ ticket) (drawn trace)
  drawn-le trace ticket e above =
      subst (λ l. All (λ t. t ≤ ticket) (map (λ event. event.ticket) trace.events ++ l)) (sym e)
      (All-push (λ t. t ≤ ticket) (map (λ event. event.ticket) trace.events) ticket (each trace.events above) (omega arith))
    where
      each : (events : List (Event M)) → All (λ event. event.ticket < ticket) events → All (λ t. t ≤ ticket) (map (λ event. event.ticket) events)
      each [] h = All-nil (λ t. t ≤ ticket)
      each (event ∷ events) h =
          All-cons (λ t. t ≤ ticket) event.ticket (map (λ x. x.ticket) events) (omega (arith, All-head (λ x. x.ticket < ticket) event events h)) (each events (All-tail (λ x. x.ticket < ticket) event events h))

  pub drawn_first : (trace : Trace M) (ticket : ℕ) → pending_ticket trace.pending ≡ [] → drawn (with_pending trace (Drew ticket)) ≡ drawn trace ++ ticket ∷ []
  drawn_first trace ticket e =
      ap (λ l. l ++ ticket ∷ []) (sym (append-nil (map (λ event. event.ticket) trace.events)) ∙ ap (λ l. map (λ event. event.ticket) trace.events ++ l) (sym e))

  -- with none pending all tickets are those of events
  pub drawn-lower : (trace : Trace M) (ticket : ℕ) → pending_ticket trace.pending ≡ [] → IsAbove ticket trace → All (λ t. t < ticket) (drawn trace)
  drawn-lower trace ticket e above =
      subst (λ l. All (λ t. t < ticket) (map (λ event. event.ticket) trace.events ++ l)) (sym e)
      (All-append (λ t. t < ticket) (map (λ event. event.ticket) trace.events) [] (each trace.events above) (All-nil (λ t. t < ticket)))
    where
      each : (events : List (Event M)) → All (λ event. event.ticket < ticket) events → All (λ t. t < ticket) (map (λ event. event.ticket) events)
      each [] h = All-nil (λ t. t < ticket)
      each (event ∷ events) h =
          All-cons (λ t. t < ticket) event.ticket (map (λ x. x.ticket) events) (All-head (λ x. x.ticket < ticket) event events h) (each events (All-tail (λ x. x.ticket < ticket) event events h))
