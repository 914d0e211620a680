-- An actor's numbers of each ring after one more event.
use Rattle.std.proofs.Common.{◌≡◌, ◌≢◌, ℕ, ◌+◌, ◌<◌, ◌≤◌, Bool, true, false, ◌==◌, if◌then◌else◌, List, [], ◌∷◌, ◌++◌, length, set, refl, sym, ap, subst, ◌∙◌, ⊎_elim, length-append, length-set, arith}
use Rattle.std.proofs.lemmas.List.{append-nil}
use mathlib.Core.Option.{some}
use lib.ListN.{get_elem?}
use Rattle.atomic_table.proofs.Lists.{at_set}
use Rattle.cable_trace.specs.declared.trace.Action.{Action}
use Rattle.cable_trace.specs.declared.trace.Action.TheVariants.{Marked, Sent, Refused, Looked, Taken}
use Rattle.cable_trace.specs.declared.trace.Event.{Event}
use Rattle.cable_trace.specs.declared.trace.Pending.TheVariants.{Idle}
use Rattle.cable_trace.specs.Trace.{sent_by, sent, shown_by, shown, taken_by, taken}
use Rattle.cable_trace.proofs.Tells.{told_more, same_ring}
use Rattle.cable_ring.specs.declared.pass.Count.{Count}
use Rattle.cable_ring.specs.Passes.{PassView, trace_at, noted, AreCounts}
use Rattle.cable_ring.proofs.CellSteps.{at-lt}
use Rattle.cable_ring.proofs.Aside.{other_ring}

module _ {M : Type 0} (pass : PassView M) (ticket : ℕ) (action : Action M) where
  pub sent_noted : (ring : ℕ) → length (sent ring (trace_at (noted pass ticket action))) ≡ length (sent ring (trace_at pass)) + length (sent_by ring ticket action)
  sent_noted ring = ap (λ (l : List (ℕ × M)). length l) (told_more (λ event. sent_by ring event.ticket event.action) pass.events (record { ticket = ticket; action = action }))
      ∙ length-append (sent ring (trace_at pass)) (sent_by ring ticket action)

  pub shown_noted : (ring : ℕ) → length (shown ring (trace_at (noted pass ticket action))) ≡ length (shown ring (trace_at pass)) + length (shown_by ring action)
  shown_noted ring = ap (λ (l : List M). length l) (told_more (λ event. shown_by ring event.action) pass.events (record { ticket = ticket; action = action }))
      ∙ length-append (shown ring (trace_at pass)) (shown_by ring action)

  pub taken_noted : (ring : ℕ) → length (taken ring (trace_at (noted pass ticket action))) ≡ length (taken ring (trace_at pass)) + length (taken_by ring ticket action)
  taken_noted ring = ap (λ (l : List (ℕ × M)). length l) (told_more (λ event. taken_by ring event.ticket event.action) pass.events (record { ticket = ticket; action = action }))
      ∙ length-append (taken ring (trace_at pass)) (taken_by ring ticket action)

  -- the event does nothing on a ring
  pub record IsQuiet (ring : ℕ) : Type 0 where
    pub sends : length (sent_by ring ticket action) ≡ 0
    pub shows : length (shown_by ring action) ≡ 0
    pub takes : length (taken_by ring ticket action) ≡ 0

  pub counts_kept : (counts : List Count) → ((ring : ℕ) → IsQuiet ring) → AreCounts counts pass → AreCounts counts (noted pass ticket action)
  counts_kept counts quiet old = record {
    long = old.long;
    sent_is = λ r k e. omega (arith, old.sent_is r k e, sent_noted r, (quiet r).sends);
    shown_is = λ r k e. omega (arith, old.shown_is r k e, shown_noted r, (quiet r).shows);
    taken_is = λ r k e. omega (arith, old.taken_is r k e, taken_noted r, (quiet r).takes);
    behind = old.behind;
  }

  pub counts_changed : (counts : List Count) (ring : ℕ) (count new : Count) → get_elem? counts ring ≡ some count → new.sent ≡ count.sent + length (sent_by ring ticket action)
      → new.shown ≡ count.shown + length (shown_by ring action) → new.taken ≡ count.taken + length (taken_by ring ticket action) → ((other : ℕ) → other ≢ ring → IsQuiet other) → new.taken ≤ new.shown
      → AreCounts counts pass → AreCounts (set counts ring new) (noted pass ticket action)
  counts_changed counts ring count new at s w t quiet le old = record {
    long = length-set counts ring new ∙ old.long;
    sent_is = λ r k e. ⊎_elim (λ here. subst (λ (x : ℕ × Count). x.1.sent ≡ length (sent x.0 (trace_at (noted pass ticket action)))) (λ i. (sym here.0 i, here.1 i))
        (omega (arith, s, old.sent_is ring count at, sent_noted ring))) (λ there. let q = quiet r there.0 in omega (arith, old.sent_is r k there.1, sent_noted r, q.sends)) (at_set counts ring r new k e);
    shown_is = λ r k e. ⊎_elim (λ here. subst (λ (x : ℕ × Count). x.1.shown ≡ length (shown x.0 (trace_at (noted pass ticket action)))) (λ i. (sym here.0 i, here.1 i))
        (omega (arith, w, old.shown_is ring count at, shown_noted ring))) (λ there. let q = quiet r there.0 in omega (arith, old.shown_is r k there.1, shown_noted r, q.shows)) (at_set counts ring r new k e);
    taken_is = λ r k e. ⊎_elim (λ here. subst (λ (x : ℕ × Count). x.1.taken ≡ length (taken x.0 (trace_at (noted pass ticket action)))) (λ i. (sym here.0 i, here.1 i))
        (omega (arith, t, old.taken_is ring count at, taken_noted ring))) (λ there. let q = quiet r there.0 in omega (arith, old.taken_is r k there.1, taken_noted r, q.takes)) (at_set counts ring r new k e);
    behind = λ r k e. ⊎_elim (λ here. subst (λ (x : Count). x.taken ≤ x.shown) here.1 le) (λ there. old.behind r k there.1) (at_set counts ring r new k e);
  }

none : {X : Type 0} (one two : ℕ) (x : List X) → two ≢ one → length (if one == two then x else []) ≡ 0
none {X} one two x ne = ap (λ (l : List X). length l) (other_ring one two x [] (λ e. ne (sym e)))

one_more : {X : Type 0} (ring : ℕ) (x : X) → length (if ring == ring then x ∷ [] else []) ≡ 1
one_more {X} ring x = ap (λ (l : List X). length l) (same_ring ring (x ∷ []) [])

module _ {M : Type 0} (pass : PassView M) (ticket : ℕ) (counts : List Count) (old : AreCounts counts pass) where
  pub counts_marked : AreCounts counts (noted pass ticket Marked)
  counts_marked = counts_kept pass ticket Marked counts (λ ring. record { sends = refl; shows = refl; takes = refl }) old

  module _ (ring : ℕ) where
    pub counts_refused : (seen : ℕ) → AreCounts counts (noted pass ticket (Refused ring seen))
    counts_refused seen = counts_kept pass ticket (Refused ring seen) counts (λ r. record { sends = refl; shows = refl; takes = refl }) old

    module _ (count : Count) (at : get_elem? counts ring ≡ some count) where
      pub counts_sent : (seen : ℕ) (message : M) → AreCounts (set counts ring (record { sent = count.sent + 1; shown = count.shown; taken = count.taken })) (noted pass ticket (Sent ring seen message))
      counts_sent seen message = counts_changed pass ticket (Sent ring seen message) counts ring count (record { sent = count.sent + 1; shown = count.shown; taken = count.taken }) at
          (let pair : ℕ × M = (ticket, message) in omega (arith, one_more ring pair)) (omega arith) (omega arith)
          (λ o ne. let pair : ℕ × M = (ticket, message) in record { sends = none ring o (pair ∷ []) ne; shows = refl; takes = refl }) (old.behind ring count at) old

      pub counts_looked : (total : ℕ) (messages : List M) → total ≡ length (shown ring (trace_at (noted pass ticket (Looked ring total messages)))) → count.taken ≤ total
          → AreCounts (set counts ring (record { sent = count.sent; shown = total; taken = count.taken })) (noted pass ticket (Looked ring total messages))
      counts_looked total messages is le = counts_changed pass ticket (Looked ring total messages) counts ring count (record { sent = count.sent; shown = total; taken = count.taken }) at
          (omega arith) (omega (arith, is, shown_noted pass ticket (Looked ring total messages) ring, old.shown_is ring count at)) (omega arith)
          (λ o ne. record { sends = refl; shows = none ring o messages ne; takes = refl }) le old

      pub counts_taken : (message : M) → count.taken < count.shown → AreCounts (set counts ring (record { sent = count.sent; shown = count.shown; taken = count.taken + 1 })) (noted pass ticket (Taken ring message))
      counts_taken message lt = counts_changed pass ticket (Taken ring message) counts ring count (record { sent = count.sent; shown = count.shown; taken = count.taken + 1 }) at
          (omega arith) (omega arith) (let pair : ℕ × M = (ticket, message) in omega (arith, one_more ring pair))
          (λ o ne. let pair : ℕ × M = (ticket, message) in record { sends = refl; shows = refl; takes = none ring o (pair ∷ []) ne }) (omega arith) old

one-le : {X : Type 0} (b : Bool) (x : X) → length (if b then x ∷ [] else []) ≤ 1
one-le true x = omega arith
one-le false x = omega arith

module _ {M : Type 0} (ring : ℕ) where
  sent_by-le : (ticket : ℕ) (action : Action M) → length (sent_by ring ticket action) ≤ 1
  sent_by-le ticket (Sent on seen message) = let pair : ℕ × M = (ticket, message) in one-le (on == ring) pair
  sent_by-le ticket action = omega arith

  taken_by-le : (ticket : ℕ) (action : Action M) → length (taken_by ring ticket action) ≤ 1
  taken_by-le ticket (Taken on message) = let pair : ℕ × M = (ticket, message) in one-le (on == ring) pair
  taken_by-le ticket action = omega arith

  -- an actor has sent and taken at most once in each event
  pub sent-le : (events : List (Event M)) → length (sent ring (record { events = events; pending = Idle })) ≤ length events
  sent-le [] = omega arith
  sent-le (event ∷ events) = omega (
    arith,
    sent-le events,
    sent_by-le event.ticket event.action,
    length-append (sent_by ring event.ticket event.action) (sent ring (record { events = events; pending = Idle })),
  )

  pub taken-le : (events : List (Event M)) → length (taken ring (record { events = events; pending = Idle })) ≤ length events
  taken-le [] = omega arith
  taken-le (event ∷ events) = omega (
    arith,
    taken-le events,
    taken_by-le event.ticket event.action,
    length-append (taken_by ring event.ticket event.action) (taken ring (record { events = events; pending = Idle })),
  )
