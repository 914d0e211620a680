-- What a step does to a ring.
use Rattle.std.proofs.Common.{◌≡◌, ◌≢◌, ℕ, zero, suc, ◌+◌, ◌*◌, ◌%◌, ◌<◌, ◌≤◌, Bool, true, false, ◌==◌, if◌then◌else◌, List, [], ◌∷◌, ◌++◌, map, length, set, Option, Some, None, refl, sym, ap, subst, ◌∙◌, append_assoc, arith}
use mathlib.Core.Option as maybe
use mathlib.Core.Option.{some, none, some-injective, some-ne-none}
use lib.ListN.{get_elem?}
use Rattle.std.specs.Prelude.{flat_map}
use Rattle.std.proofs.lemmas.List.{append-nil, length-append, length-map, map-append}
use Rattle.cable_trace.specs.declared.trace.Action.{Action}
use Rattle.cable_trace.specs.declared.trace.Action.TheVariants.{Sent, Refused, Looked, Taken}
use Rattle.cable_trace.specs.declared.trace.Event.{Event}
use Rattle.cable_trace.specs.declared.trace.Pending.{Pending}
use Rattle.cable_trace.specs.declared.trace.Pending.TheVariants.{Idle, Drew, Putting, Fetching, Took}
use Rattle.cable_trace.specs.declared.trace.Trace.{Trace}
use Rattle.cable_trace.specs.Trace.{pending_ticket, taken_before_ticket, drawn, sent_by, sent, refused, looks, taken_by, taken, shown_by, shown, moved}
use Rattle.cable_trace.specs.Step.{with_pending, with_event, IsAbove, IsAboveSends, IsAboveTakes, SendsNothing, TakesNothing}
use Rattle.cable_trace.specs.Ring.{Begins, messages, RingHolds}
use Rattle.cable_trace.proofs.Tells.{same_ring, told_more}
use Rattle.cable_trace.proofs.Elsewhere.{told_same}
use Rattle.cable_trace.proofs.SenderKeeps.{sender_goes, sender_draws_one, sender_refused, sender_sent}
use Rattle.cable_trace.proofs.TakerKeeps.{begins-le, taker_goes, taker_draws_one, taker_looked, taker_moved, taker_took}
use Rattle.cable_ring.specs.Cells.{slot, putting, fetching, AreCells}
use Rattle.cable_ring.specs.Rule.{IsRing}
use Rattle.cable_ring.proofs.CellSteps.{at-lt, cells_claimed, cells_sent, cells_fetched, cells_moved, cells_shown, cells_kept}

-- a list that begins another goes on with what that has next
pub begins_next : {M : Type 0} (first rest : List M) (x : M) → get_elem? (first ++ rest) (length first) ≡ some x → Begins (first ++ x ∷ []) (first ++ rest)
begins_next first rest x e = let n = next rest (at first rest e) in record { rest = n.0; is = ap (λ l. first ++ l) n.1 ∙ sym (append_assoc first (x ∷ []) n.0) }
  where
    at : {A : Type 0} {a : A} (l m : List A) → get_elem? (l ++ m) (length l) ≡ some a → get_elem? m 0 ≡ some a
    at [] m h = h
    at (y ∷ l) m h = at l m h

    next : {A : Type 0} {a : A} (l : List A) → get_elem? l 0 ≡ some a → (m : List A) × (l ≡ a ∷ m)
    next {A} {a} [] h = absurd (some-ne-none a (sym h))
    next {A} {a} (y ∷ l) h = (l, ap (λ z. z ∷ l) (some-injective y a h))

module _ {M : Type 0} where
  -- the cells by other names
  cells_at : (cells ring head tail : ℕ) (homes : List (maybe.Option (Option M))) {s s' : List M} {p p' : List ℕ} {w w' f f' : List M} → s ≡ s' → p ≡ p' → w ≡ w' → f ≡ f'
      → AreCells cells ring head tail homes s p w f → AreCells cells ring head tail homes s' p' w' f'
  cells_at cells ring head tail homes {s} {s'} {p} {p'} {w} {w'} {f} {f'} a b c d h =
      subst (λ x. AreCells cells ring head tail homes s' p' w' x) d (subst (λ x. AreCells cells ring head tail homes s' p' x f) c
      (subst (λ x. AreCells cells ring head tail homes s' x w f) b (subst (λ x. AreCells cells ring head tail homes x p w f) a h)))

  module _ (cells ring head tail : ℕ) (homes : List (maybe.Option (Option M))) (sender taker : Trace M) (r : IsRing cells ring head tail homes sender taker) where
    pub long : length (messages (sent ring sender)) ≡ tail
    long = length-map (sent ring sender) (λ (pair : ℕ × M). pair.1) ∙ sym r.tail_is

    pub shown-le : length (shown ring taker) ≤ tail
    shown-le = subst (λ (n : ℕ). length (shown ring taker) ≤ n) long (begins-le (shown ring taker) (messages (sent ring sender)) r.holds.shows)

    pub head-le-shown : head ≤ length (shown ring taker)
    head-le-shown = subst (λ (n : ℕ). n ≤ length (shown ring taker)) (sym r.head_is) (begins-le (moved ring taker) (shown ring taker) r.holds.moves)

    pub behind : head ≤ tail
    behind = omega (arith, shown-le, head-le-shown)

    pub room : tail ≤ head + cells
    room = omega (arith, r.holds.room, r.head_is, r.tail_is)

    -- what a sender does away from the ring
    pub sender_stays : (new : Trace M) → RingHolds cells ring new taker → SendsNothing ring sender new → putting ring new.pending ≡ putting ring sender.pending
        → IsRing cells ring head tail homes new taker
    sender_stays new h same p = record {
      holds = h;
      head_is = r.head_is;
      tail_is = r.tail_is ∙ ap (λ (l : List (ℕ × M)). length l) (sym same.sends);
      lie = cells_at cells ring head tail homes (ap messages (sym same.sends)) (sym p) refl refl r.lie;
    }

    -- what a taker does away from the ring
    pub taker_stays : (new : Trace M) → RingHolds cells ring sender new → TakesNothing ring taker new → fetching ring new.pending ≡ fetching ring taker.pending
        → IsRing cells ring head tail homes sender new
    taker_stays new h same f = record {
      holds = h;
      head_is = r.head_is ∙ ap (λ (l : List M). length l) (sym same.moves);
      tail_is = r.tail_is;
      lie = cells_at cells ring head tail homes refl refl (sym same.shows) (sym f) r.lie;
    }

    -- other cells
    pub ring_kept : (now : List (maybe.Option (Option M))) → ((k : ℕ) → get_elem? now (slot cells ring k) ≡ get_elem? homes (slot cells ring k))
        → IsRing cells ring head tail now sender taker
    ring_kept now same = record {
      holds = r.holds;
      head_is = r.head_is;
      tail_is = r.tail_is;
      lie = cells_kept cells ring head tail homes (messages (sent ring sender)) (shown ring taker) long behind room (putting ring sender.pending) (fetching ring taker.pending) now same r.lie;
    }

    -- the sender sees room
    pub sender_claims : (ticket : ℕ) → sender.pending ≡ Drew ticket → tail < head + cells
        → IsRing cells ring head tail (set homes (slot cells ring tail) none) (with_pending sender (Putting ring ticket head)) taker
    sender_claims ticket e free = record {
      holds = sender_goes cells ring sender taker r.holds (with_pending sender (Putting ring ticket head)) (record { sends = refl; refusals = refl })
          (ap (λ p. map (λ event. event.ticket) sender.events ++ pending_ticket p) (sym e));
      head_is = r.head_is;
      tail_is = r.tail_is;
      lie = cells_at cells ring head tail (set homes (slot cells ring tail) none) refl (sym (same_ring ring (head ∷ []) [])) refl refl
          (cells_claimed cells ring head tail homes (messages (sent ring sender)) (shown ring taker) long behind room (fetching ring taker.pending) free
          (cells_at cells ring head tail homes refl (ap (putting ring) e) refl refl r.lie));
    }

    -- the sender finds the ring full
    pub sender_finds_full : (ticket : ℕ) → sender.pending ≡ Drew ticket → IsAbove ticket sender → tail ≡ head + cells
        → IsRing cells ring head tail homes (with_event sender ticket (Refused ring head)) taker
    sender_finds_full ticket e above full =
        let new : Trace M = with_event sender ticket (Refused ring head) in
        let s : sent ring new ≡ sent ring sender = told_same (λ event. sent_by ring event.ticket event.action) sender.events (record { ticket = ticket; action = Refused ring head }) refl in
        record {
          holds = sender_refused cells ring sender taker r.holds ticket head e above r.head_is (sym r.tail_is ∙ full);
          head_is = r.head_is;
          tail_is = r.tail_is ∙ ap (λ (l : List (ℕ × M)). length l) (sym s);
          lie = cells_at cells ring head tail homes (ap messages (sym s)) (ap (putting ring) e) refl refl r.lie;
        }

    -- the sender stores the tail
    pub sender_stores : (ticket seen : ℕ) (message : M) → sender.pending ≡ Putting ring ticket seen → IsAbove ticket sender → slot cells ring tail < length homes
        → IsRing cells ring head (tail + 1) (set homes (slot cells ring tail) (some (Some message))) (with_event sender ticket (Sent ring seen message)) taker
    sender_stores ticket seen message e above inside =
        let new : Trace M = with_event sender ticket (Sent ring seen message) in
        let pair : ℕ × M = (ticket, message) in
        let s : sent ring new ≡ sent ring sender ++ pair ∷ [] =
        told_more (λ event. sent_by ring event.ticket event.action) sender.events (record { ticket = ticket; action = Sent ring seen message })
        ∙ ap (λ l. sent ring sender ++ l) (same_ring ring (pair ∷ []) []) in
        let m : messages (sent ring new) ≡ messages (sent ring sender) ++ message ∷ [] = ap messages s ∙ map-append (λ (x : ℕ × M). x.1) (sent ring sender) (pair ∷ []) in
        let p : putting ring sender.pending ≡ seen ∷ [] = ap (putting ring) e ∙ same_ring ring (seen ∷ []) [] in
        let saw = r.lie.sees seen p in
        record {
          holds = sender_sent cells ring sender taker r.holds ticket seen message e above (omega (arith, saw.0, saw.1, r.head_is, r.tail_is));
          head_is = r.head_is;
          tail_is = omega (arith, ap (λ (l : List (ℕ × M)). length l) s, length-append (sent ring sender) (pair ∷ []), r.tail_is);
          lie = cells_at cells ring head (tail + 1) (set homes (slot cells ring tail) (some (Some message))) (sym m) refl refl refl
              (cells_sent cells ring head tail homes (messages (sent ring sender)) (shown ring taker) long behind room (fetching ring taker.pending) seen message inside
              (cells_at cells ring head tail homes refl p refl refl r.lie));
        }

    -- the taker loads the tail
    pub taker_sees : (ticket : ℕ) (more : Begins (shown ring taker) (messages (sent ring sender))) → taker.pending ≡ Drew ticket → IsAbove ticket taker
        → IsRing cells ring head tail homes sender (with_event taker ticket (Looked ring tail more.rest))
    taker_sees ticket more e above =
        let ms : List M = more.rest in
        let new : Trace M = with_event taker ticket (Looked ring tail ms) in
        let t : taken ring new ≡ taken ring taker = told_same (λ event. taken_by ring event.ticket event.action) taker.events (record { ticket = ticket; action = Looked ring tail ms }) refl in
        let m : moved ring new ≡ moved ring taker = ap (λ x. messages x ++ []) t ∙ ap (λ p. messages (taken ring taker) ++ taken_before_ticket ring p) (sym e) in
        record {
          holds = taker_looked cells ring sender taker r.holds ticket tail e above r.tail_is more;
          head_is = r.head_is ∙ ap (λ (l : List M). length l) (sym m);
          tail_is = r.tail_is;
          lie = cells_shown cells ring head tail homes (messages (sent ring sender)) (shown ring taker) long behind room (putting ring sender.pending) (shown ring new)
              (cells_at cells ring head tail homes refl refl refl (ap (fetching ring) e) r.lie);
        }

    -- the taker has the cell at the head
    pub taker_fetches : (message : M) → taker.pending ≡ Idle → get_elem? (shown ring taker) head ≡ some message → head < tail
        → IsRing cells ring head tail (set homes (slot cells ring head) none) sender (with_pending taker (Fetching ring message))
    taker_fetches message e is some_sent = record {
      holds = taker_goes cells ring sender taker r.holds (with_pending taker (Fetching ring message))
          (record { seen = refl; shows = refl; takes = refl; moves = ap (λ p. messages (taken ring taker) ++ taken_before_ticket ring p) (sym e) })
          (ap (λ p. map (λ event. event.ticket) taker.events ++ pending_ticket p) (sym e));
      head_is = r.head_is ∙ ap (λ p. length (messages (taken ring taker) ++ taken_before_ticket ring p)) e;
      tail_is = r.tail_is;
      lie = cells_at cells ring head tail (set homes (slot cells ring head) none) refl refl refl (sym (same_ring ring (message ∷ []) []))
          (cells_fetched cells ring head tail homes (messages (sent ring sender)) (shown ring taker) long behind room (putting ring sender.pending) message some_sent is
          (cells_at cells ring head tail homes refl refl refl (ap (fetching ring) e) r.lie));
    }

    -- the taker stores the head
    pub taker_stores : (message : M) → taker.pending ≡ Fetching ring message → slot cells ring head < length homes
        → IsRing cells ring (head + 1) tail (set homes (slot cells ring head) (some None)) sender (with_pending taker (Took ring message))
    taker_stores message e inside =
        let f : fetching ring taker.pending ≡ message ∷ [] = ap (fetching ring) e ∙ same_ring ring (message ∷ []) [] in
        let is : get_elem? (shown ring taker) head ≡ some message = r.lie.moves message f in
        let some_shown : head < length (shown ring taker) = at-lt (shown ring taker) head message is in
        let none_late : moved ring taker ≡ messages (taken ring taker) =
        ap (λ p. messages (taken ring taker) ++ taken_before_ticket ring p) e ∙ append-nil (messages (taken ring taker)) in
        let m : moved ring (with_pending taker (Took ring message)) ≡ moved ring taker ++ message ∷ [] =
        ap (λ l. messages (taken ring taker) ++ l) (same_ring ring (message ∷ []) []) ∙ ap (λ l. l ++ message ∷ []) (sym none_late) in
        let goes : get_elem? (moved ring taker ++ r.holds.moves.rest) (length (moved ring taker)) ≡ some message =
        ap (λ l. get_elem? l (length (moved ring taker))) (sym r.holds.moves.is) ∙ ap (λ (k : ℕ). get_elem? (shown ring taker) k) (sym r.head_is) ∙ is in
        record {
          holds = taker_moved cells ring sender taker r.holds message e
              (subst (λ l. Begins (moved ring taker ++ message ∷ []) l) (sym r.holds.moves.is) (begins_next (moved ring taker) r.holds.moves.rest message goes));
          head_is = omega (arith, ap (λ (l : List M). length l) m, length-append (moved ring taker) (message ∷ []), r.head_is);
          tail_is = r.tail_is;
          lie = cells_moved cells ring head tail homes (messages (sent ring sender)) (shown ring taker) long behind room (putting ring sender.pending) message (omega (arith, shown-le)) inside
              (cells_at cells ring head tail homes refl refl refl f r.lie);
        }

    -- the take gets its ticket
    pub taker_is_done : (ticket : ℕ) (message : M) → taker.pending ≡ Took ring message → IsAboveSends ring ticket sender → IsAbove ticket taker
        → IsRing cells ring head tail homes sender (with_event taker ticket (Taken ring message))
    taker_is_done ticket message e sends above =
        let new : Trace M = with_event taker ticket (Taken ring message) in
        let pair : ℕ × M = (ticket, message) in
        let t : taken ring new ≡ taken ring taker ++ pair ∷ [] =
        told_more (λ event. taken_by ring event.ticket event.action) taker.events (record { ticket = ticket; action = Taken ring message })
        ∙ ap (λ x. taken ring taker ++ x) (same_ring ring (pair ∷ []) []) in
        let s : shown ring new ≡ shown ring taker = told_same (λ event. shown_by ring event.action) taker.events (record { ticket = ticket; action = Taken ring message }) refl in
        let late : moved ring taker ≡ messages (taken ring taker) ++ message ∷ [] =
        ap (λ p. messages (taken ring taker) ++ taken_before_ticket ring p) e ∙ ap (λ x. messages (taken ring taker) ++ x) (same_ring ring (message ∷ []) []) in
        let m : moved ring new ≡ moved ring taker =
        append-nil (messages (taken ring new)) ∙ ap messages t ∙ map-append (λ (x : ℕ × M). x.1) (taken ring taker) (pair ∷ []) ∙ sym late in
        record {
          holds = taker_took cells ring sender taker r.holds ticket message e sends above;
          head_is = r.head_is ∙ ap (λ (l : List M). length l) (sym m);
          tail_is = r.tail_is;
          lie = cells_at cells ring head tail homes refl refl (sym s) (ap (fetching ring) e) r.lie;
        }
