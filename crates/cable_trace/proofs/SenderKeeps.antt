-- Each step of a sender keeps what holds of a ring.
use Rattle.std.proofs.Common.{◌≡◌, ℕ, ◌+◌, ◌<◌, ◌≤◌, Bool, true, false, ◌==◌, if◌then◌else◌, List, [], ◌∷◌, ◌++◌, length, sym, ap, subst, ◌∙◌, append_assoc, arith}
use Rattle.std.specs.List.{All}
use Rattle.std.proofs.lemmas.List.{append-nil, length-append, length-map, map-append}
use Rattle.cable_trace.specs.declared.trace.Action.TheVariants.{Sent, Refused}
use Rattle.cable_trace.specs.declared.trace.Pending.{Pending}
use Rattle.cable_trace.specs.declared.trace.Pending.TheVariants.{Idle, Drew, Putting, Fetching, Took}
use Rattle.cable_trace.specs.declared.trace.Trace.{Trace}
use Rattle.cable_trace.specs.Trace.{pending_ticket, taken_before_ticket, drawn, sent_by, sent, refused_by, refused, looks, taken, shown, moved}
use Rattle.cable_trace.specs.Step.{with_event, IsAbove, IsAboveTakes, SendsNothing}
use Rattle.cable_trace.specs.Order.{InOrder}
use Rattle.cable_trace.specs.Ring.{Begins, tickets, messages, RingHolds}
use Rattle.cable_trace.proofs.Orders.{order_sender_draws, order_sender_is_refused, order_sender_sends}
use Rattle.cable_trace.proofs.Tells.{same_ring, told_more, all_firsts, drawn_same, drawn-le}
use Rattle.cable_trace.proofs.Above.{above_sends}

-- the order of tickets at the same lists of the sender
order_at : (cells : ℕ) {d e s t : List ℕ} {r q : List (ℕ × ℕ)} {asked : List ℕ} {seen : List (ℕ × ℕ)} {takes : List ℕ} → d ≡ e → s ≡ t → r ≡ q
    → InOrder cells d s r asked seen takes → InOrder cells e t q asked seen takes
order_at cells {d} {e} {s} {t} {r} {q} {asked} {seen} {takes} x y z o =
    subst (λ l. InOrder cells e t l asked seen takes) z (subst (λ l. InOrder cells e l r asked seen takes) y (subst (λ l. InOrder cells l s r asked seen takes) x o))

-- a list begins a longer one too
begins_more : {M : Type 0} (first whole more : List M) → Begins first whole → Begins first (whole ++ more)
begins_more first whole more b = record { rest = b.rest ++ more; is = ap (λ l. l ++ more) b.is ∙ append_assoc first b.rest more }

module _ {M : Type 0} where
  -- at most one take has no ticket yet
  late-le : (ring : ℕ) (pending : Pending M) → length (taken_before_ticket ring pending) ≤ 1
  late-le ring Idle = omega arith
  late-le ring (Drew ticket) = omega arith
  late-le ring (Putting on ticket seen) = omega arith
  late-le ring (Fetching on message) = omega arith
  late-le ring (Took on message) = one (on == ring)
    where
      one : (b : Bool) → length (if b then message ∷ [] else []) ≤ 1
      one true = omega arith
      one false = omega arith

  pub moved-le : (ring : ℕ) (taker : Trace M) → length (moved ring taker) ≤ length (tickets (taken ring taker)) + 1
  moved-le ring taker = omega (arith, late-le ring taker.pending, length-append (messages (taken ring taker)) (taken_before_ticket ring taker.pending), length-map (taken ring taker) (λ (pair : ℕ × M). pair.1), length-map (taken ring taker) (λ (pair : ℕ × M). pair.0))

  pub taken-le-moved : (ring : ℕ) (taker : Trace M) → length (tickets (taken ring taker)) ≤ length (moved ring taker)
  taken-le-moved ring taker = omega (arith, length-append (messages (taken ring taker)) (taken_before_ticket ring taker.pending), length-map (taken ring taker) (λ (pair : ℕ × M). pair.1), length-map (taken ring taker) (λ (pair : ℕ × M). pair.0))

  module _ (cells ring : ℕ) (sender taker : Trace M) (h : RingHolds cells ring sender taker) where
    -- the messages and the room, at the same sends
    pub sender_same : (new : Trace M) → SendsNothing ring sender new
        → InOrder cells (drawn new) (tickets (sent ring new)) (refused ring new) (drawn taker) (looks ring taker) (tickets (taken ring taker))
        → RingHolds cells ring new taker
    sender_same new same o = record {
      shows = subst (λ l. Begins (shown ring taker) (messages l)) (sym same.sends) h.shows;
      moves = h.moves;
      room = subst (λ (l : List (ℕ × M)). length l ≤ length (moved ring taker) + cells) (sym same.sends) h.room;
      order = o;
    }

    pub sender_goes : (new : Trace M) → SendsNothing ring sender new → drawn new ≡ drawn sender → RingHolds cells ring new taker
    sender_goes new same e = sender_same new same (order_at cells (sym e) (ap tickets (sym same.sends)) (sym same.refusals) h.order)

    pub sender_draws_one : (new : Trace M) (ticket : ℕ) → SendsNothing ring sender new → drawn new ≡ drawn sender ++ ticket ∷ [] → IsAboveTakes ring ticket taker
        → RingHolds cells ring new taker
    sender_draws_one new ticket same e above = sender_same new same (order_at cells (sym e) (ap tickets (sym same.sends)) (sym same.refusals)
        (order_sender_draws cells (drawn sender) (tickets (sent ring sender)) (refused ring sender) (drawn taker) (looks ring taker) (tickets (taken ring taker)) h.order ticket
        (all_firsts (λ t. t < ticket) (taken ring taker) above.takes) above.seen
        (omega (arith, h.room, moved-le ring taker, length-map (sent ring sender) (λ (pair : ℕ × M). pair.0)))))

    -- a refusal
    pub sender_refused : (ticket seen : ℕ) → sender.pending ≡ Drew ticket → IsAbove ticket sender → seen ≡ length (moved ring taker) → length (sent ring sender) ≡ seen + cells
        → RingHolds cells ring (with_event sender ticket (Refused ring seen)) taker
    sender_refused ticket seen e above head full =
        let new : Trace M = with_event sender ticket (Refused ring seen) in
        let s : sent ring new ≡ sent ring sender =
        told_more (λ event. sent_by ring event.ticket event.action) sender.events (record { ticket = ticket; action = Refused ring seen }) ∙ append-nil (sent ring sender) in
        let r : refused ring new ≡ refused ring sender ++ (ticket, seen) ∷ [] =
        told_more (λ event. refused_by ring event.ticket event.action) sender.events (record { ticket = ticket; action = Refused ring seen })
        ∙ ap (λ l. refused ring sender ++ l) (same_ring ring ((ticket, seen) ∷ []) []) in
        record {
          shows = subst (λ l. Begins (shown ring taker) (messages l)) (sym s) h.shows;
          moves = h.moves;
          room = subst (λ (l : List (ℕ × M)). length l ≤ length (moved ring taker) + cells) (sym s) h.room;
          order = order_at cells (sym (drawn_same sender ticket (Refused ring seen) (ap pending_ticket e))) (ap tickets (sym s)) (sym r)
              (order_sender_is_refused cells (drawn sender) (tickets (sent ring sender)) (refused ring sender) (drawn taker) (looks ring taker) (tickets (taken ring taker)) h.order ticket seen
              (all_firsts (λ t. t < ticket) (sent ring sender) (above_sends ring ticket sender above).sends)
              (omega (arith, taken-le-moved ring taker))
              (omega (arith, length-map (sent ring sender) (λ (pair : ℕ × M). pair.0))));
        }

    -- a send
    pub sender_sent : (ticket seen : ℕ) (message : M) → sender.pending ≡ Putting ring ticket seen → IsAbove ticket sender
        → length (sent ring sender) < length (moved ring taker) + cells → RingHolds cells ring (with_event sender ticket (Sent ring seen message)) taker
    sender_sent ticket seen message e above room =
        let new : Trace M = with_event sender ticket (Sent ring seen message) in
        let pair : ℕ × M = (ticket, message) in
        let s : sent ring new ≡ sent ring sender ++ pair ∷ [] =
        told_more (λ event. sent_by ring event.ticket event.action) sender.events (record { ticket = ticket; action = Sent ring seen message })
        ∙ ap (λ l. sent ring sender ++ l) (same_ring ring (pair ∷ []) []) in
        let r : refused ring new ≡ refused ring sender =
        told_more (λ event. refused_by ring event.ticket event.action) sender.events (record { ticket = ticket; action = Sent ring seen message }) ∙ append-nil (refused ring sender) in
        let last : All (λ t. t ≤ ticket) (drawn sender) = drawn-le sender ticket (ap pending_ticket e) above in
        let earlier : All (λ refusal. refusal.0 < ticket) (refused ring sender) = (above_sends ring ticket sender above).refusals in
        record {
          shows = subst (λ l. Begins (shown ring taker) l) (sym (map-append (λ (x : ℕ × M). x.1) (sent ring sender) (pair ∷ [])) ∙ ap messages (sym s))
              (begins_more (shown ring taker) (messages (sent ring sender)) (message ∷ []) h.shows);
          moves = h.moves;
          room = subst (λ (l : List (ℕ × M)). length l ≤ length (moved ring taker) + cells) (sym s) (omega (arith, length-append (sent ring sender) (pair ∷ [])));
          order = order_at cells (sym (drawn_same sender ticket (Sent ring seen message) (ap pending_ticket e)))
              (sym (map-append (λ (x : ℕ × M). x.0) (sent ring sender) (pair ∷ [])) ∙ ap tickets (sym s)) (sym r)
              (order_sender_sends cells (drawn sender) (tickets (sent ring sender)) (refused ring sender) (drawn taker) (looks ring taker) (tickets (taken ring taker)) h.order ticket
              last (λ k d lt. omega (arith, earlier k d lt)));
        }
