-- What an actor did was its own to do, and so one actor alone is at each end of a ring.
use Rattle.std.proofs.Common.{◌≡◌, ◌≢◌, ℕ, zero, suc, ◌==◌, if◌then◌else◌, List, [], ◌∷◌, ◌++◌, flat_map, refl, sym, ap, subst, ◌∙◌, arith, ne_eqb}
use Rattle.std.specs.List.{All}
use Rattle.std.proofs.lemmas.List.Elements.{All-push, All-head, All-tail}
use mathlib.Core.Option.{some, some-injective, some-ne-none}
use native.Mathlib.Decide.{ℕ_discrete}
use lib.ListN.{get_elem?}
use Rattle.cable_trace.specs.declared.trace.Action.{Action}
use Rattle.cable_trace.specs.declared.trace.Action.TheVariants.{Marked, Sent, Refused, Looked, Taken, Stored, Loaded}
use Rattle.cable_trace.specs.declared.trace.Event.{Event}
use Rattle.cable_trace.specs.declared.trace.Trace.{Trace}
use Rattle.cable_trace.specs.Trace.{sent_by, refused_by, looked_by, taken_by, sent, refused, looks, taken}
use Rattle.cable_trace.specs.Step.{with_event}
use Rattle.cable_trace.specs.Logs.{IsRingOf}
use Rattle.cable_ring.specs.declared.view.RingSpec.{RingSpec}
use Rattle.cable_ring.specs.Ends.{sender_at, taker_at, IsOwn, DidOwn}
use Rattle.cable_ring.proofs.Put.{put, put_here, put_else}

sender_of : (list : List RingSpec) (ring : ℕ) (spec : RingSpec) → get_elem? list ring ≡ some spec → sender_at list ring ≡ suc spec.from
sender_of [] ring spec e = absurd (some-ne-none spec (sym e))
sender_of (x ∷ list) zero spec e = ap (λ (r : RingSpec). suc r.from) (some-injective x spec e)
sender_of (x ∷ list) (suc ring) spec e = sender_of list ring spec e

taker_of : (list : List RingSpec) (ring : ℕ) (spec : RingSpec) → get_elem? list ring ≡ some spec → taker_at list ring ≡ suc spec.to
taker_of [] ring spec e = absurd (some-ne-none spec (sym e))
taker_of (x ∷ list) zero spec e = ap (λ (r : RingSpec). suc r.to) (some-injective x spec e)
taker_of (x ∷ list) (suc ring) spec e = taker_of list ring spec e

elsewhere : {X : Type 0} (on ring : ℕ) (xs : List X) → on ≢ ring → (if on == ring then xs else []) ≡ []
elsewhere {X} on ring xs ne = ap (λ b. if b then xs else []) (ne_eqb on ring ne)

module _ (rings : List RingSpec) (ring : ℕ) (spec : RingSpec) (at : get_elem? rings ring ≡ some spec) (actor : ℕ) where
  not_from : actor ≢ spec.from → (on : ℕ) → sender_at rings on ≡ suc actor → on ≢ ring
  not_from ne on its e = let is : suc spec.from ≡ suc actor = sym (sender_of rings ring spec at) ∙ ap (sender_at rings) (sym e) ∙ its in ne (omega arith)

  not_to : actor ≢ spec.to → (on : ℕ) → taker_at rings on ≡ suc actor → on ≢ ring
  not_to ne on its e = let is : suc spec.to ≡ suc actor = sym (taker_of rings ring spec at) ∙ ap (taker_at rings) (sym e) ∙ its in ne (omega arith)

module _ {M : Type 0} (rings : List RingSpec) where
  pub own_event : (actor ticket : ℕ) (trace : Trace M) (action : Action M) → DidOwn rings actor trace → IsOwn rings actor action → DidOwn rings actor (with_event trace ticket action)
  own_event actor ticket trace action old its = All-push (λ (event : Event M). IsOwn rings actor event.action) trace.events (record { ticket = ticket; action = action }) old its

  pub own_put : (traces : ℕ → Trace M) (a : ℕ) (new : Trace M) → ((actor : ℕ) → DidOwn rings actor (traces actor)) → DidOwn rings a new → (actor : ℕ) → DidOwn rings actor (put traces a new actor)
  own_put traces a new old its actor = go (ℕ_discrete actor a)
    where
      go : Dec (actor ≡ a) → DidOwn rings actor (put traces a new actor)
      go (yes e) = subst (λ (k : ℕ). DidOwn rings k (put traces a new k)) (sym e) (subst (λ (t : Trace M). DidOwn rings a t) (sym (put_here traces a new)) its)
      go (no ne) = subst (λ (t : Trace M). DidOwn rings actor t) (sym (put_else traces a new actor ne)) (old actor)

  -- no event tells anything
  none_told : {B : Type 0} (f : Event M → List B) (P : Event M → Type 0) → ((event : Event M) → P event → f event ≡ []) → (events : List (Event M)) → All P events → flat_map f events ≡ []
  none_told f P nothing [] all = refl
  none_told f P nothing (event ∷ events) all = (λ i. nothing event (All-head P event events all) i ++ flat_map f events) ∙ none_told f P nothing events (All-tail P event events all)

  module _ (ring : ℕ) (spec : RingSpec) (at : get_elem? rings ring ≡ some spec) (actor : ℕ) where
    no_send : actor ≢ spec.from → (ticket : ℕ) (action : Action M) → IsOwn rings actor action → sent_by ring ticket action ≡ []
    no_send ne ticket (Sent on seen message) its = elsewhere on ring ((ticket, message) ∷ []) (not_from rings ring spec at actor ne on its)
    no_send ne ticket Marked its = refl
    no_send ne ticket (Refused on seen) its = refl
    no_send ne ticket (Looked on total messages) its = refl
    no_send ne ticket (Taken on message) its = refl
    no_send ne ticket (Stored number) its = refl
    no_send ne ticket (Loaded number) its = refl

    no_refusal : actor ≢ spec.from → (ticket : ℕ) (action : Action M) → IsOwn rings actor action → refused_by ring ticket action ≡ []
    no_refusal ne ticket (Refused on seen) its = elsewhere on ring ((ticket, seen) ∷ []) (not_from rings ring spec at actor ne on its)
    no_refusal ne ticket Marked its = refl
    no_refusal ne ticket (Sent on seen message) its = refl
    no_refusal ne ticket (Looked on total messages) its = refl
    no_refusal ne ticket (Taken on message) its = refl
    no_refusal ne ticket (Stored number) its = refl
    no_refusal ne ticket (Loaded number) its = refl

    no_look : actor ≢ spec.to → (ticket : ℕ) (action : Action M) → IsOwn rings actor action → looked_by ring ticket action ≡ []
    no_look ne ticket (Looked on total messages) its = elsewhere on ring ((ticket, total) ∷ []) (not_to rings ring spec at actor ne on its)
    no_look ne ticket Marked its = refl
    no_look ne ticket (Sent on seen message) its = refl
    no_look ne ticket (Refused on seen) its = refl
    no_look ne ticket (Taken on message) its = refl
    no_look ne ticket (Stored number) its = refl
    no_look ne ticket (Loaded number) its = refl

    no_take : actor ≢ spec.to → (ticket : ℕ) (action : Action M) → IsOwn rings actor action → taken_by ring ticket action ≡ []
    no_take ne ticket (Taken on message) its = elsewhere on ring ((ticket, message) ∷ []) (not_to rings ring spec at actor ne on its)
    no_take ne ticket Marked its = refl
    no_take ne ticket (Sent on seen message) its = refl
    no_take ne ticket (Refused on seen) its = refl
    no_take ne ticket (Looked on total messages) its = refl
    no_take ne ticket (Stored number) its = refl
    no_take ne ticket (Loaded number) its = refl

  -- one actor alone sends on a ring, and one alone looks at it and takes from it
  pub ring_of : (traces : ℕ → Trace M) → ((actor : ℕ) → DidOwn rings actor (traces actor)) → (ring : ℕ) (spec : RingSpec) → get_elem? rings ring ≡ some spec → IsRingOf ring spec.from spec.to traces
  ring_of traces own ring spec at = record {
    sent_by_one = λ actor ne. none_told (λ event. sent_by ring event.ticket event.action) (λ event. IsOwn rings actor event.action)
        (λ event its. no_send ring spec at actor ne event.ticket event.action its) (traces actor).events (own actor);
    refused_by_one = λ actor ne. none_told (λ event. refused_by ring event.ticket event.action) (λ event. IsOwn rings actor event.action)
        (λ event its. no_refusal ring spec at actor ne event.ticket event.action its) (traces actor).events (own actor);
    taken_by_one = λ actor ne. none_told (λ event. taken_by ring event.ticket event.action) (λ event. IsOwn rings actor event.action)
        (λ event its. no_take ring spec at actor ne event.ticket event.action its) (traces actor).events (own actor);
    seen_by_one = λ actor ne. none_told (λ event. looked_by ring event.ticket event.action) (λ event. IsOwn rings actor event.action)
        (λ event its. no_look ring spec at actor ne event.ticket event.action its) (traces actor).events (own actor);
  }
