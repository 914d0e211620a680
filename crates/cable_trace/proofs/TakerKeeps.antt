-- Each step of a taker keeps what holds of a ring.
use Rattle.std.proofs.Common.{◌≡◌, ℕ, ◌+◌, ◌<◌, ◌≤◌, List, [], ◌∷◌, ◌++◌, map, length, refl, sym, ap, subst, ◌∙◌, append_assoc, arith}
use Rattle.std.specs.List.{All}
use Rattle.std.proofs.lemmas.List.{append-nil, length-append, length-map, map-append}
use Rattle.cable_trace.specs.declared.trace.Action.TheVariants.{Looked, Taken}
use Rattle.cable_trace.specs.declared.trace.Pending.TheVariants.{Drew, Fetching, Took}
use Rattle.cable_trace.specs.declared.trace.Trace.{Trace}
use Rattle.cable_trace.specs.Trace.{pending_ticket, taken_before_ticket, drawn, sent, refused, looked_by, looks, taken_by, taken, shown_by, shown, moved}
use Rattle.cable_trace.specs.Step.{with_pending, with_event, IsAbove, IsAboveSends, TakesNothing}
use Rattle.cable_trace.specs.Order.{InOrder}
use Rattle.cable_trace.specs.Ring.{Begins, tickets, messages, RingHolds}
use Rattle.cable_trace.proofs.Orders.{order_taker_draws, order_taker_looks, order_taker_takes}
use Rattle.cable_trace.proofs.Tells.{same_ring, told_more, all_firsts, drawn_same, drawn_more, drawn-le}
use Rattle.cable_trace.proofs.Above.{above_takes}

-- the order of tickets at the same lists of the taker
order_at : (cells : ℕ) {drawn sends : List ℕ} {refusals : List (ℕ × ℕ)} {d e : List ℕ} {l m : List (ℕ × ℕ)} {s t : List ℕ} → d ≡ e → l ≡ m → s ≡ t
    → InOrder cells drawn sends refusals d l s → InOrder cells drawn sends refusals e m t
order_at cells {drawn} {sends} {refusals} {d} {e} {l} {m} {s} {t} x y z o =
    subst (λ q. InOrder cells drawn sends refusals e m q) z (subst (λ q. InOrder cells drawn sends refusals e q s) y (subst (λ q. InOrder cells drawn sends refusals q l s) x o))

-- how long a list that begins another is
pub begins-le : {M : Type 0} (first whole : List M) → Begins first whole → length first ≤ length whole
begins-le first whole b = subst (λ l. length first ≤ length l) (sym b.is) (omega (arith, length-append first b.rest))

-- a list begins itself
begins_same : {M : Type 0} (first whole : List M) → whole ≡ first → Begins first whole
begins_same first whole e = record { rest = []; is = e ∙ sym (append-nil first) }

-- a list begins a longer one too
begins_more : {M : Type 0} (first whole more : List M) → Begins first whole → Begins first (whole ++ more)
begins_more first whole more b = record { rest = b.rest ++ more; is = ap (λ l. l ++ more) b.is ∙ append_assoc first b.rest more }

module _ {M : Type 0} (cells ring : ℕ) (sender taker : Trace M) (h : RingHolds cells ring sender taker) where
  -- the messages and the room, at the same looks and takes
  pub taker_same : (new : Trace M) → TakesNothing ring taker new
      → InOrder cells (drawn sender) (tickets (sent ring sender)) (refused ring sender) (drawn new) (looks ring new) (tickets (taken ring new))
      → RingHolds cells ring sender new
  taker_same new same o = record {
    shows = subst (λ l. Begins l (messages (sent ring sender))) (sym same.shows) h.shows;
    moves = subst (λ l. Begins (moved ring new) l) (sym same.shows) (subst (λ l. Begins l (shown ring taker)) (sym same.moves) h.moves);
    room = subst (λ (l : List M). length (sent ring sender) ≤ length l + cells) (sym same.moves) h.room;
    order = o;
  }

  pub taker_goes : (new : Trace M) → TakesNothing ring taker new → drawn new ≡ drawn taker → RingHolds cells ring sender new
  taker_goes new same e = taker_same new same (order_at cells (sym e) (sym same.seen) (ap tickets (sym same.takes)) h.order)

  pub taker_draws_one : (new : Trace M) (ticket : ℕ) → TakesNothing ring taker new → drawn new ≡ drawn taker ++ ticket ∷ [] → IsAboveSends ring ticket sender
      → RingHolds cells ring sender new
  taker_draws_one new ticket same e above = taker_same new same (order_at cells (sym e) (sym same.seen) (ap tickets (sym same.takes))
      (order_taker_draws cells (drawn sender) (tickets (sent ring sender)) (refused ring sender) (drawn taker) (looks ring taker) (tickets (taken ring taker)) h.order ticket
      (all_firsts (λ t. t < ticket) (sent ring sender) above.sends)))

  -- a look
  pub taker_looked : (ticket count : ℕ) → taker.pending ≡ Drew ticket → IsAbove ticket taker → count ≡ length (sent ring sender)
      → (more : Begins (shown ring taker) (messages (sent ring sender))) → RingHolds cells ring sender (with_event taker ticket (Looked ring count more.rest))
  taker_looked ticket count e above all more =
      let new : Trace M = with_event taker ticket (Looked ring count more.rest) in
      let s : shown ring new ≡ shown ring taker ++ more.rest =
      told_more (λ event. shown_by ring event.action) taker.events (record { ticket = ticket; action = Looked ring count more.rest })
      ∙ ap (λ l. shown ring taker ++ l) (same_ring ring more.rest []) in
      let l : looks ring new ≡ looks ring taker ++ (ticket, count) ∷ [] =
      told_more (λ event. looked_by ring event.ticket event.action) taker.events (record { ticket = ticket; action = Looked ring count more.rest })
      ∙ ap (λ x. looks ring taker ++ x) (same_ring ring ((ticket, count) ∷ []) []) in
      let t : taken ring new ≡ taken ring taker =
      told_more (λ event. taken_by ring event.ticket event.action) taker.events (record { ticket = ticket; action = Looked ring count more.rest }) ∙ append-nil (taken ring taker) in
      let m : moved ring new ≡ moved ring taker =
      ap (λ x. messages x ++ []) t ∙ ap (λ p. messages (taken ring taker) ++ taken_before_ticket ring p) (sym e) in
      record {
        shows = begins_same (shown ring new) (messages (sent ring sender)) (more.is ∙ sym s);
        moves = subst (λ x. Begins x (shown ring new)) (sym m) (subst (λ x. Begins (moved ring taker) x) (sym s) (begins_more (moved ring taker) (shown ring taker) more.rest h.moves));
        room = subst (λ (x : List M). length (sent ring sender) ≤ length x + cells) (sym m) h.room;
        order = order_at cells (sym (drawn_same taker ticket (Looked ring count more.rest) (ap pending_ticket e))) (sym l) (ap tickets (sym t))
            (order_taker_looks cells (drawn sender) (tickets (sent ring sender)) (refused ring sender) (drawn taker) (looks ring taker) (tickets (taken ring taker)) h.order ticket count
            (omega (arith, length-map (sent ring sender) (λ (pair : ℕ × M). pair.0)))
            (drawn-le taker ticket (ap pending_ticket e) above));
      }

  -- a message leaves the ring
  pub taker_moved : (message : M) → taker.pending ≡ Fetching ring message → Begins (moved ring taker ++ message ∷ []) (shown ring taker)
      → RingHolds cells ring sender (with_pending taker (Took ring message))
  taker_moved message e next =
      let new : Trace M = with_pending taker (Took ring message) in
      let none : moved ring taker ≡ messages (taken ring taker) =
      ap (λ p. messages (taken ring taker) ++ taken_before_ticket ring p) e ∙ append-nil (messages (taken ring taker)) in
      let m : moved ring new ≡ moved ring taker ++ message ∷ [] =
      ap (λ l. messages (taken ring taker) ++ l) (same_ring ring (message ∷ []) []) ∙ ap (λ l. l ++ message ∷ []) (sym none) in
      record {
        shows = h.shows;
        moves = subst (λ l. Begins l (shown ring taker)) (sym m) next;
        room = subst (λ (l : List M). length (sent ring sender) ≤ length l + cells) (sym m) (omega (arith, h.room, length-append (moved ring taker) (message ∷ [])));
        order = order_at cells (ap (λ p. map (λ event. event.ticket) taker.events ++ pending_ticket p) e) refl refl h.order;
      }

  -- its take gets a ticket
  pub taker_took : (ticket : ℕ) (message : M) → taker.pending ≡ Took ring message → IsAboveSends ring ticket sender → IsAbove ticket taker
      → RingHolds cells ring sender (with_event taker ticket (Taken ring message))
  taker_took ticket message e sends above =
      let new : Trace M = with_event taker ticket (Taken ring message) in
      let pair : ℕ × M = (ticket, message) in
      let s : shown ring new ≡ shown ring taker =
      told_more (λ event. shown_by ring event.action) taker.events (record { ticket = ticket; action = Taken ring message }) ∙ append-nil (shown ring taker) in
      let l : looks ring new ≡ looks ring taker =
      told_more (λ event. looked_by ring event.ticket event.action) taker.events (record { ticket = ticket; action = Taken ring message }) ∙ append-nil (looks ring taker) in
      let t : taken ring new ≡ taken ring taker ++ pair ∷ [] =
      told_more (λ event. taken_by ring event.ticket event.action) taker.events (record { ticket = ticket; action = Taken ring message })
      ∙ ap (λ x. taken ring taker ++ x) (same_ring ring (pair ∷ []) []) in
      let late : moved ring taker ≡ messages (taken ring taker) ++ message ∷ [] =
      ap (λ p. messages (taken ring taker) ++ taken_before_ticket ring p) e ∙ ap (λ x. messages (taken ring taker) ++ x) (same_ring ring (message ∷ []) []) in
      let m : moved ring new ≡ moved ring taker =
      append-nil (messages (taken ring new)) ∙ ap messages t ∙ map-append (λ (x : ℕ × M). x.1) (taken ring taker) (pair ∷ []) ∙ sym late in
      let one_more : length (moved ring taker) ≡ length (messages (taken ring taker)) + 1 = ap length late ∙ length-append (messages (taken ring taker)) (message ∷ []) in
      let refusals : All (λ refusal. refusal.0 < ticket) (refused ring sender) = sends.refusals in
      let takes : All (λ take. take < ticket) (tickets (taken ring taker)) = all_firsts (λ x. x < ticket) (taken ring taker) (above_takes ring ticket taker above).takes in
      let sends_below : All (λ send. send < ticket) (tickets (sent ring sender)) = all_firsts (λ x. x < ticket) (sent ring sender) sends.sends in
      record {
        shows = subst (λ x. Begins x (messages (sent ring sender))) (sym s) h.shows;
        moves = subst (λ x. Begins (moved ring new) x) (sym s) (subst (λ x. Begins x (shown ring taker)) (sym m) h.moves);
        room = subst (λ (x : List M). length (sent ring sender) ≤ length x + cells) (sym m) h.room;
        order = order_at cells (sym (drawn_more taker ticket (Taken ring message) (ap pending_ticket e))) (sym l)
            (sym (map-append (λ (x : ℕ × M). x.0) (taken ring taker) (pair ∷ [])) ∙ ap tickets (sym t))
            (order_taker_takes cells (drawn sender) (tickets (sent ring sender)) (refused ring sender) (drawn taker ++ ticket ∷ []) (looks ring taker) (tickets (taken ring taker))
            (order_taker_draws cells (drawn sender) (tickets (sent ring sender)) (refused ring sender) (drawn taker) (looks ring taker) (tickets (taken ring taker)) h.order ticket sends_below)
            ticket (λ k d lt. omega (arith, refusals k d lt)) sends_below (λ k d lt. omega (arith, takes k d lt))
            (omega (
              arith,
              one_more,
              begins-le (moved ring taker) (shown ring taker) h.moves,
              begins-le (shown ring taker) (messages (sent ring sender)) h.shows,
              length-map (taken ring taker) (λ (x : ℕ × M). x.0),
              length-map (taken ring taker) (λ (x : ℕ × M). x.1),
              length-map (sent ring sender) (λ (x : ℕ × M). x.0),
              length-map (sent ring sender) (λ (x : ℕ × M). x.1),
            )));
      }
