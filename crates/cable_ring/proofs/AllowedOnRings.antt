-- Each step at a ring is allowed by the rule.
use Rattle.std.proofs.Common.{◌≡◌, ◌≢◌, ℕ, zero, suc, ◌+◌, ◌*◌, ◌%◌, ◌^◌, ◌<◌, ◌≤◌, List, [], ◌∷◌, ◌++◌, length, get_or, set, Option, Some, None, refl, sym, ap, subst, ◌∙◌, arith, ne_eqb, length-set, length-append, get_or-set_other, get_or-set_same}
use mathlib.Core.Option as maybe
use mathlib.Core.Option.{some, none, some-injective, some-ne-none}
use native.Mathlib.Decide.{ℕ_discrete, dec_le}
use lib.ListN.{get_elem?}
use lib.Seq.{set-get_or}
use Rattle.atomic_table.specs.Table.{State, Me, step, Act, keeps, takes, gives, Valid, carried_after, stepped, Allows}
use Rattle.atomic_table.proofs.Lists.{at_longer, set_else}
use Rattle.cable_trace.specs.declared.trace.Action.{Action}
use Rattle.cable_trace.specs.declared.trace.Action.TheVariants.{Sent, Refused, Looked, Taken}
use Rattle.cable_trace.specs.declared.trace.Pending.{Pending}
use Rattle.cable_trace.specs.declared.trace.Pending.TheVariants.{Idle, Drew, Putting, Fetching, Took}
use Rattle.cable_trace.specs.declared.trace.Trace.{Trace}
use Rattle.cable_trace.specs.Trace.{pending_ticket, taken_before_ticket, drawn, sent, shown, moved}
use Rattle.cable_trace.specs.Step.{with_pending, with_event, SendsNothing, TakesNothing}
use Rattle.cable_trace.specs.Ring.{Begins, messages}
use Rattle.cable_trace.proofs.Tells.{drawn_same}
use Rattle.cable_trace.proofs.Elsewhere.{event_sends, event_takes, pending_takes}
use Rattle.cable_trace.proofs.SenderKeeps.{sender_goes}
use Rattle.cable_trace.proofs.TakerKeeps.{taker_goes}
use Rattle.cable_ring.specs.declared.view.RingSpec.{RingSpec}
use Rattle.cable_ring.specs.declared.view.Plan.{Plan}
use Rattle.cable_ring.specs.declared.view.Acting.{Acting}
use Rattle.cable_ring.specs.declared.view.View.{View}
use Rattle.cable_ring.specs.declared.view.View.TheVariants.{Actor}
use Rattle.cable_ring.specs.Cells.{slot, putting, fetching}
use Rattle.cable_ring.specs.Rule.{head_word, tail_word, IsRing, IsCable}
use Rattle.cable_ring.specs.Steps.{Seated, FoundHead, FoundTail, FoundCell, saw_head, stored_tail, saw_tail, saw_cell, stored_head}
use Rattle.cable_ring.specs.Passes.{sender_at, taker_at}
use Rattle.cable_ring.proofs.Put.{put, sides}
use Rattle.cable_ring.proofs.Owned.{own_event}
use Rattle.cable_ring.proofs.CellSteps.{at-lt}
use Rattle.cable_ring.proofs.RingSteps.{long, shown-le, behind, room, sender_stays, taker_stays, sender_claims, sender_finds_full, sender_stores, taker_sees, taker_fetches, taker_stores}
use Rattle.cable_ring.proofs.Aside.{IsAside, IsOffBeat, other_ring, event_aside, pending_aside, event_off_beat, pending_off_beat}
use Rattle.cable_ring.proofs.CableSteps.{Is, own-above, slots_apart, slot-lt, ring_step}
use Rattle.cable_ring.proofs.Allowed.{as_ruled, by_rule, sender_is, taker_is, sender_there, taker_there}

-- a list has something at each place below its length
at_below : {A : Type 0} (l : List A) (i : ℕ) → i < length l → (a : A) × (get_elem? l i ≡ some a)
at_below [] i lt = absurd (omega arith)
at_below (x ∷ l) zero lt = (x, refl)
at_below (x ∷ l) (suc i) lt = at_below l i (omega arith)

pub drew-same : {M : Type 0} (x : Pending M) (t u : ℕ) → x ≡ Drew t → x ≡ Drew u → t ≡ u
drew-same x t u d e = cc

-- the message in the first of some cells
abbrev held_or : {M : Type 0} → M → Option M → M
held_or other (Some message) = message
held_or other None = other

abbrev message_in : {M : Type 0} → M → List (ℕ × Option M) → M
message_in other [] = other
message_in other (cell ∷ cells) = held_or other cell.1

module _ {M : Type 0} (cells ring : ℕ) (traces : ℕ → Trace M) (a from to : ℕ) (new : Trace M) (head tail : ℕ) (homes : List (maybe.Option (Option M))) (head' tail' : ℕ) (homes' : List (maybe.Option (Option M)))
    (same : drawn new ≡ drawn (traces a)) where
  -- a step of a ring's sender
  as_sender : from ≡ a → ((t : Trace M) → IsRing cells ring head tail homes (traces a) t → IsRing cells ring head' tail' homes' new t) → TakesNothing ring (traces a) new
      → fetching ring new.pending ≡ fetching ring (traces a).pending → IsRing cells ring head tail homes (traces from) (traces to) → IsRing cells ring head' tail' homes' (put traces a new from) (put traces a new to)
  as_sender its step still fetches h = sides (IsRing cells ring head tail homes) (IsRing cells ring head' tail' homes') (IsRing cells ring head' tail' homes') traces a new from to
      (λ e t r. step t r) (λ ne s t r. absurd (ne its))
      (λ e s r. taker_stays cells ring head' tail' homes' s (traces a) r new (taker_goes cells ring s (traces a) r.holds new still same) still fetches) (λ ne s t r. r) h

  -- a step of its taker
  as_taker : (Q : Trace M → Type 0) → (Q (traces a) → Q new) → Q (traces from) → to ≡ a → ((s : Trace M) → Q s → IsRing cells ring head tail homes s (traces a) → IsRing cells ring head' tail' homes' s new)
      → SendsNothing ring (traces a) new → putting ring new.pending ≡ putting ring (traces a).pending → IsRing cells ring head tail homes (traces from) (traces to)
      → IsRing cells ring head' tail' homes' (put traces a new from) (put traces a new to)
  as_taker Q keeps_q q its step sends puts h = sides (λ s t. Q s × IsRing cells ring head tail homes s t) (λ s t. Q s × IsRing cells ring head tail homes s t) (IsRing cells ring head' tail' homes') traces a new from to
      (λ e t r. (keeps_q r.0, sender_stays cells ring head tail homes (traces a) t r.1 new (sender_goes cells ring (traces a) t r.1.holds new sends same) sends puts)) (λ ne s t r. r)
      (λ e s r. step s r.0 r.1) (λ ne s t r. absurd (ne its)) (q, h)

module _ {M : Type 0} (plan : Plan) (slots id ring : ℕ) where
  -- the head is loaded by the sender
  abbrev pub MaySend : ℕ → Acting M → Type 0
  MaySend ticket x = (x.trace.pending ≡ Drew ticket) × (sender_at x.plan.rings ring ≡ suc x.actor)

  module _ (s : State (Option M) (View M)) (h : IsCable plan s) (a : ℕ) (at : get_elem? s.views id ≡ some (Actor (as_ruled plan s h a))) (ticket : ℕ) (pre : MaySend ticket (as_ruled plan s h a)) where
    abbrev Old : Trace M
    Old = h.traces a

    abbrev Head : ℕ
    Head = get_or s.words (head_word ring) 0

    abbrev Tail : ℕ
    Tail = get_or s.words (tail_word ring) 0

    found_by : (to : ℕ) (r : IsRing plan.cells ring Head Tail s.homes Old (h.traces to)) → (Tail ≡ length (sent ring Old)) → (Head ≤ length (sent ring Old)) → (length (sent ring Old) ≤ Head + plan.cells)
        → Dec (Head + plan.cells ≤ Tail) → (w : View M) × (act : Act (Option M)) × Valid s.homes [] act × IsCable plan (stepped s (head_word ring) Head id [] w act)
        × FoundHead (Actor (as_ruled plan s h a), []) Head (w, carried_after [] act) ring ticket
    found_by to r sent-is within most (yes le) =
        let new : Trace M = with_event Old ticket (Refused ring Head) in
        let full : Tail ≡ Head + plan.cells = omega (arith, most, sent-is) in
        let same : drawn new ≡ drawn Old = drawn_same Old ticket (Refused ring Head) (ap pending_ticket pre.0) in (
          Is plan s h id a new,
          keeps,
          tt,
          subst (λ (ws : List ℕ). IsCable plan record { words = ws; homes = s.homes; views = set s.views id (Is plan s h id a new) }) (sym (set-get_or s.words (head_word ring) 0))
              (ring_step plan s h id a at new (own_event plan.rings a ticket Old (Refused ring Head) (h.own a) pre.1) s.words s.homes same refl refl refl ring refl (λ o ne. (refl, refl)) (λ o k ne. refl) (event_off_beat ticket Old (Refused ring Head) refl refl)
              (λ o ne. event_aside o ticket Old (Refused ring Head) (ne_eqb ring o (λ e. ne (sym e))) refl (ap (taken_before_ticket o) pre.0) (ap (putting o) pre.0) (ap (fetching o) pre.0))
              (λ spec is. as_sender plan.cells ring h.traces a spec.from spec.to new Head Tail s.homes Head Tail s.homes same (sender_is plan.rings ring a spec pre.1 is)
              (λ t q. sender_finds_full plan.cells ring Head Tail s.homes Old t q ticket pre.0 (own-above plan s h id a at ticket (ap pending_ticket pre.0)) full)
              (event_takes ring ticket Old (Refused ring Head) refl (ap (taken_before_ticket ring) pre.0)) (sym (ap (fetching ring) pre.0)) (h.rings ring spec is))),
          (within, most, (λ e. refl), (λ lt. absurd (omega (arith, sent-is)))),
        )
    found_by to r sent-is within most (no gt) =
        let new : Trace M = with_pending Old (Putting ring ticket Head) in
        let free : Tail < Head + plan.cells = omega arith in
        let same : drawn new ≡ drawn Old = ap (λ p. drawn (with_pending Old p)) (sym pre.0) in
        let cell : ℕ = slot plan.cells ring (length (sent ring Old)) in
        let vacant : get_elem? s.homes cell ≡ some (some None) = ap (λ (k : ℕ). get_elem? s.homes (slot plan.cells ring k)) (sym sent-is)
        ∙ r.lie.empty Tail (omega arith) free (λ e. ap (putting ring) pre.0) in (
          Is plan s h id a new,
          takes cell None,
          vacant,
          subst (λ (ws : List ℕ). IsCable plan record { words = ws; homes = set s.homes cell none; views = set s.views id (Is plan s h id a new) }) (sym (set-get_or s.words (head_word ring) 0))
              (ring_step plan s h id a at new (h.own a) s.words (set s.homes cell none) same refl (length-set s.homes cell none) refl ring refl (λ o ne. (refl, refl))
              (λ o k ne. set_else s.homes cell (slot plan.cells o k) none (slots_apart plan.cells o ring k (length (sent ring Old)) h.limits.some_cell ne)) (pending_off_beat Old (Putting ring ticket Head))
              (λ o ne. pending_aside o Old (Putting ring ticket Head) (sym (ap (taken_before_ticket o) pre.0)) (other_ring ring o (Head ∷ []) [] (λ e. ne (sym e)) ∙ sym (ap (putting o) pre.0)) (sym (ap (fetching o) pre.0)))
              (λ spec is. as_sender plan.cells ring h.traces a spec.from spec.to new Head Tail s.homes Head Tail (set s.homes cell none) same (sender_is plan.rings ring a spec pre.1 is)
              (λ t q. subst (λ (k : ℕ). IsRing plan.cells ring Head Tail (set s.homes (slot plan.cells ring k) none) new t) sent-is (sender_claims plan.cells ring Head Tail s.homes Old t q ticket pre.0 free))
              (pending_takes ring Old (Putting ring ticket Head) (sym (ap (taken_before_ticket ring) pre.0))) (sym (ap (fetching ring) pre.0)) (h.rings ring spec is))),
          (within, most, (λ e. absurd (omega (arith, sent-is))), (λ lt. refl)),
        )

    found : (w : View M) × (act : Act (Option M)) × Valid s.homes [] act × IsCable plan (stepped s (head_word ring) Head id [] w act)
        × FoundHead (Actor (as_ruled plan s h a), []) Head (w, carried_after [] act) ring ticket
    found =
        let there = sender_there plan.rings ring a pre.1 in
        let its : there.0.from ≡ a = sender_is plan.rings ring a there.0 pre.1 there.1 in
        let to : ℕ = there.0.to in
        let r : IsRing plan.cells ring Head Tail s.homes Old (h.traces to) = subst (λ (k : ℕ). IsRing plan.cells ring Head Tail s.homes (h.traces k) (h.traces to)) its (h.rings ring there.0 there.1) in
        let sent-is : Tail ≡ length (sent ring Old) = r.tail_is in
        found_by to r sent-is (omega (arith, behind plan.cells ring Head Tail s.homes Old (h.traces to) r)) (omega (arith, room plan.cells ring Head Tail s.homes Old (h.traces to) r)) (dec_le (Head + plan.cells) Tail)

  pub may_see_head : (ticket : ℕ) (acting : Acting M) → MaySend ticket acting
      → Allows (IsCable plan) slots id (Actor acting, []) (head_word ring) (λ n. n) (saw_head (step slots (head_word ring) 0 0 none) (Actor acting, []))
  may_see_head ticket acting pre = by_rule plan slots id (head_word ring) (λ n. n) (saw_head (step slots (head_word ring) 0 0 none)) (MaySend ticket) acting [] pre
      (λ s h deep at pre'. let f = found s h acting.actor at ticket pre' in (
        f.0,
        f.1,
        f.2,
        f.3,
        λ r t ew ep. let one : ring ≡ r = omega arith in let two : ticket ≡ t = drew-same (h.traces acting.actor).pending ticket t pre'.0 ep in
            subst (λ (z : ℕ × ℕ). FoundHead (Actor (as_ruled plan s h acting.actor), []) (get_or s.words (head_word ring) 0) (f.0, carried_after [] f.1) z.0 z.1) (λ i. (one i, two i)) f.4,
      ))

  -- the tail is stored by the sender
  abbrev pub MayStoreTail : ℕ → ℕ → M → ℕ → List (ℕ × Option M) → Acting M → Type 0
  MayStoreTail ticket seen message value c x = (x.trace.pending ≡ Putting ring ticket seen) × (sender_at x.plan.rings ring ≡ suc x.actor) × (value ≡ length (sent ring x.trace) + 1)
      × (c ≡ (slot x.plan.cells ring (length (sent ring x.trace)), Some message) ∷ [])

  putting-same : (x : Pending M) (r t h r' t' h' : ℕ) → x ≡ Putting r t h → x ≡ Putting r' t' h' → (r ≡ r') × (t ≡ t') × (h ≡ h')
  putting-same x r t h r' t' h' d e = let one : r ≡ r' = cc in let two : t ≡ t' = cc in let three : h ≡ h' = cc in (one, two, three)

  some-same : (x y : M) → Some x ≡ Some y → x ≡ y
  some-same x y e = cc

  module _ (s : State (Option M) (View M)) (h : IsCable plan s) (a : ℕ) (at : get_elem? s.views id ≡ some (Actor (as_ruled plan s h a))) where
    tail-stored : (ticket seen : ℕ) (message : M) (value : ℕ) → (h.traces a).pending ≡ Putting ring ticket seen → sender_at plan.rings ring ≡ suc a → value ≡ length (sent ring (h.traces a)) + 1
        → IsCable plan (stepped s (tail_word ring) value id ((slot plan.cells ring (length (sent ring (h.traces a))), Some message) ∷ []) (Is plan s h id a (with_event (h.traces a) ticket (Sent ring seen message))) gives)
    tail-stored ticket seen message value p ends v-is =
        let old : Trace M = h.traces a in
        let new : Trace M = with_event old ticket (Sent ring seen message) in
        let same : drawn new ≡ drawn old = drawn_same old ticket (Sent ring seen message) (ap pending_ticket p) in
        let cell : ℕ = slot plan.cells ring (length (sent ring old)) in
        let homes : List (maybe.Option (Option M)) = set s.homes cell (some (Some message)) in
        let words : List ℕ = set s.words (tail_word ring) value in
        let there = sender_there plan.rings ring a ends in
        let below : ring < length plan.rings = at-lt plan.rings ring there.0 there.1 in
        let inside : tail_word ring < length s.words = omega (arith, h.words) in
        let tail-now : get_or words (tail_word ring) 0 ≡ value = get_or-set_same s.words (tail_word ring) value 0 inside in
        let head-now : get_or words (head_word ring) 0 ≡ get_or s.words (head_word ring) 0 = get_or-set_other s.words (tail_word ring) (head_word ring) value 0 (λ e. omega arith) in
        ring_step plan s h id a at new (own_event plan.rings a ticket old (Sent ring seen message) (h.own a) ends) words homes same (length-set s.words (tail_word ring) value) (length-set s.homes cell (some (Some message)))
        (get_or-set_other s.words (tail_word ring) 0 value 0 (λ e. omega arith)) ring (get_or-set_other s.words (tail_word ring) 8 value 0 (λ e. omega arith))
        (λ o ne. (get_or-set_other s.words (tail_word ring) (head_word o) value 0 (λ e. omega arith), get_or-set_other s.words (tail_word ring) (tail_word o) value 0 (λ e. ne (omega arith))))
        (λ o k ne. set_else s.homes cell (slot plan.cells o k) (some (Some message)) (slots_apart plan.cells o ring k (length (sent ring old)) h.limits.some_cell ne))
        (event_off_beat ticket old (Sent ring seen message) refl refl)
        (λ o ne. let apart : ring ≢ o = λ e. ne (sym e) in record {
          sends = event_sends o ticket old (Sent ring seen message) (ne_eqb ring o apart);
          takes = event_takes o ticket old (Sent ring seen message) refl (ap (taken_before_ticket o) p);
          puts = sym (ap (putting o) p ∙ other_ring ring o (seen ∷ []) [] apart);
          fetches = sym (ap (fetching o) p);
        })
        (λ spec is. as_sender plan.cells ring h.traces a spec.from spec.to new (get_or s.words (head_word ring) 0) (get_or s.words (tail_word ring) 0) s.homes
        (get_or words (head_word ring) 0) (get_or words (tail_word ring) 0) homes same (sender_is plan.rings ring a spec ends is)
        (λ t q. let long-is : get_or s.words (tail_word ring) 0 ≡ length (sent ring old) = q.tail_is in
        let next-is : get_or s.words (tail_word ring) 0 + 1 ≡ get_or words (tail_word ring) 0 = omega arith in
        let within : slot plan.cells ring (get_or s.words (tail_word ring) 0) < length s.homes = subst (λ (n : ℕ). slot plan.cells ring (get_or s.words (tail_word ring) 0) < n) (sym h.slots)
        (slot-lt plan.cells (length plan.rings) ring (get_or s.words (tail_word ring) 0) h.limits.some_cell below) in
        let r : IsRing plan.cells ring (get_or s.words (head_word ring) 0) (get_or s.words (tail_word ring) 0 + 1) (set s.homes (slot plan.cells ring (get_or s.words (tail_word ring) 0)) (some (Some message))) new t =
        sender_stores plan.cells ring (get_or s.words (head_word ring) 0) (get_or s.words (tail_word ring) 0) s.homes old t q ticket seen message p
        (own-above plan s h id a at ticket (ap pending_ticket p)) within in
        subst (λ (n : ℕ). IsRing plan.cells ring n (get_or words (tail_word ring) 0) homes new t) (sym head-now)
        (subst (λ (n : ℕ). IsRing plan.cells ring (get_or s.words (head_word ring) 0) n homes new t) next-is
        (subst (λ (n : ℕ). IsRing plan.cells ring (get_or s.words (head_word ring) 0) (get_or s.words (tail_word ring) 0 + 1) (set s.homes (slot plan.cells ring n) (some (Some message))) new t) long-is r)))
        (event_takes ring ticket old (Sent ring seen message) refl (ap (taken_before_ticket ring) p)) (sym (ap (fetching ring) p)) (h.rings ring spec is))

  pub may_store_tail : (ticket seen : ℕ) (message : M) (value : ℕ) (acting : Acting M) (c : List (ℕ × Option M)) → MayStoreTail ticket seen message value c acting
      → Allows (IsCable plan) slots id (Actor acting, c) (tail_word ring) (λ _. value) (λ _. stored_tail (step slots (tail_word ring) value 0 none) (Actor acting, c) value)
  may_store_tail ticket seen message value acting c pre = by_rule plan slots id (tail_word ring) (λ _. value) (λ me found new. stored_tail (step slots (tail_word ring) value 0 none) me value new) (MayStoreTail ticket seen message value c) acting c pre
      (λ s h deep at pre'. let a : ℕ = acting.actor in let new : Trace M = with_event (h.traces a) ticket (Sent ring seen message) in (
        Is plan s h id a new,
        gives,
        tt,
        subst (λ (cs : List (ℕ × Option M)). IsCable plan (stepped s (tail_word ring) value id cs (Is plan s h id a new) gives)) (sym pre'.3) (tail-stored s h a at ticket seen message value pre'.0 pre'.1 pre'.2),
        (λ r t u place m ep ec.
            let one = putting-same (h.traces acting.actor).pending ring ticket seen r t u pre'.0 ep in
            let cells-are : (slot plan.cells ring (length (sent ring (h.traces a))), Some message) ∷ [] ≡ (place, Some m) ∷ [] = sym pre'.3 ∙ ec in
            let two : message ≡ m = ap (message_in message) cells-are in
            let none-left : carried_after c gives ≡ [] = ap (λ cs. carried_after cs gives) pre'.3 in
            λ i. (Is plan s h id a (with_event (h.traces a) (one.1 i) (Sent (one.0 i) (one.2 i) (two i))), none-left i)),
      ))

  -- the tail is loaded by the taker
  abbrev pub MayLook : ℕ → Acting M → Type 0
  MayLook ticket x = (x.trace.pending ≡ Drew ticket) × (taker_at x.plan.rings ring ≡ suc x.actor)

  module _ (s : State (Option M) (View M)) (h : IsCable plan s) (a : ℕ) (at : get_elem? s.views id ≡ some (Actor (as_ruled plan s h a))) (ticket : ℕ) (pre : MayLook ticket (as_ruled plan s h a)) where
    looked : (c : List (ℕ × Option M)) → (w : View M) × (act : Act (Option M)) × Valid s.homes c act × IsCable plan (stepped s (tail_word ring) (get_or s.words (tail_word ring) 0) id c w act)
        × FoundTail (Actor (as_ruled plan s h a), c) (get_or s.words (tail_word ring) 0) (w, carried_after c act) ring ticket
    looked c =
        let old : Trace M = h.traces a in
        let head : ℕ = get_or s.words (head_word ring) 0 in
        let tail : ℕ = get_or s.words (tail_word ring) 0 in
        let there = taker_there plan.rings ring a pre.1 in
        let its : there.0.to ≡ a = taker_is plan.rings ring a there.0 pre.1 there.1 in
        let sender : Trace M = h.traces there.0.from in
        let r : IsRing plan.cells ring head tail s.homes sender old = subst (λ (k : ℕ). IsRing plan.cells ring head tail s.homes sender (h.traces k)) its (h.rings ring there.0 there.1) in
        let ms : List M = r.holds.shows.rest in
        let new : Trace M = with_event old ticket (Looked ring tail ms) in
        let same : drawn new ≡ drawn old = drawn_same old ticket (Looked ring tail ms) (ap pending_ticket pre.0) in
        let sends : SendsNothing ring old new = event_sends ring ticket old (Looked ring tail ms) refl in
        let all : messages (sent ring sender) ≡ shown ring old ++ ms = r.holds.shows.is in
        let head-is : head ≡ length (moved ring old) = r.head_is in
        let long-is : length (messages (sent ring sender)) ≡ tail = long plan.cells ring head tail s.homes sender old r in
        let Q : Trace M → Type 0 = λ t. messages (sent ring t) ≡ shown ring old ++ ms in (
          Is plan s h id a new,
          keeps,
          tt,
          subst (λ (ws : List ℕ). IsCable plan record { words = ws; homes = s.homes; views = set s.views id (Is plan s h id a new) }) (sym (set-get_or s.words (tail_word ring) 0))
              (ring_step plan s h id a at new (own_event plan.rings a ticket old (Looked ring tail ms) (h.own a) pre.1) s.words s.homes same refl refl refl ring refl (λ o ne. (refl, refl)) (λ o k ne. refl) (event_off_beat ticket old (Looked ring tail ms) refl refl)
              (λ o ne. event_aside o ticket old (Looked ring tail ms) refl (ne_eqb ring o (λ e. ne (sym e))) (ap (taken_before_ticket o) pre.0) (ap (putting o) pre.0) (ap (fetching o) pre.0))
              (λ spec is. let spec-is : there.0 ≡ spec = some-injective there.0 spec (sym there.1 ∙ is) in
              as_taker plan.cells ring h.traces a spec.from spec.to new head tail s.homes head tail s.homes same Q (λ q. ap messages sends.sends ∙ q)
              (subst (λ (x : RingSpec). Q (h.traces x.from)) spec-is all) (taker_is plan.rings ring a spec pre.1 is)
              (λ t q z. taker_sees plan.cells ring head tail s.homes t old z ticket (record { rest = ms; is = q }) pre.0 (own-above plan s h id a at ticket (ap pending_ticket pre.0)))
              sends (sym (ap (putting ring) pre.0)) (h.rings ring spec is))),
          (
            ms,
            refl,
            sym long-is ∙ ap (λ (l : List M). length l) all ∙ length-append (shown ring old) ms,
            omega (arith, behind plan.cells ring head tail s.homes sender old r),
            omega (arith, room plan.cells ring head tail s.homes sender old r),
          ),
        )

  pub may_see_tail : (ticket : ℕ) (acting : Acting M) (c : List (ℕ × Option M)) → MayLook ticket acting
      → Allows (IsCable plan) slots id (Actor acting, c) (tail_word ring) (λ n. n) (saw_tail (step slots (tail_word ring) 0 0 none) (Actor acting, c))
  may_see_tail ticket acting c pre = by_rule plan slots id (tail_word ring) (λ n. n) (saw_tail (step slots (tail_word ring) 0 0 none)) (MayLook ticket) acting c pre
      (λ s h deep at pre'. let f = looked s h acting.actor at ticket pre' c in (
        f.0,
        f.1,
        f.2,
        f.3,
        λ r t ew ep. let one : ring ≡ r = omega arith in let two : ticket ≡ t = drew-same (h.traces acting.actor).pending ticket t pre'.0 ep in
            subst (λ (z : ℕ × ℕ). FoundTail (Actor (as_ruled plan s h acting.actor), c) (get_or s.words (tail_word ring) 0) (f.0, carried_after c f.1) z.0 z.1) (λ i. (one i, two i)) f.4,
      ))

  -- the head is loaded by the taker
  abbrev pub MayTake : Acting M → Type 0
  MayTake x = (x.trace.pending ≡ Idle) × (taker_at x.plan.rings ring ≡ suc x.actor) × (length (moved ring x.trace) < length (shown ring x.trace))

  module _ (s : State (Option M) (View M)) (h : IsCable plan s) (a : ℕ) (at : get_elem? s.views id ≡ some (Actor (as_ruled plan s h a))) (pre : MayTake (as_ruled plan s h a)) where
    fetched : (w : View M) × (act : Act (Option M)) × Valid s.homes [] act × IsCable plan (stepped s (head_word ring) (get_or s.words (head_word ring) 0) id [] w act)
        × FoundCell (Actor (as_ruled plan s h a), []) (w, carried_after [] act) ring
    fetched =
        let old : Trace M = h.traces a in
        let head : ℕ = get_or s.words (head_word ring) 0 in
        let tail : ℕ = get_or s.words (tail_word ring) 0 in
        let there = taker_there plan.rings ring a pre.1 in
        let its : there.0.to ≡ a = taker_is plan.rings ring a there.0 pre.1 there.1 in
        let sender : Trace M = h.traces there.0.from in
        let r : IsRing plan.cells ring head tail s.homes sender old = subst (λ (k : ℕ). IsRing plan.cells ring head tail s.homes sender (h.traces k)) its (h.rings ring there.0 there.1) in
        let head-is : head ≡ length (moved ring old) = r.head_is in
        let first = at_below (shown ring old) (length (moved ring old)) pre.2 in
        let message : M = first.0 in
        let new : Trace M = with_pending old (Fetching ring message) in
        let same : drawn new ≡ drawn old = ap (λ p. drawn (with_pending old p)) (sym pre.0) in
        let cell : ℕ = slot plan.cells ring (length (moved ring old)) in
        let shown-at : get_elem? (shown ring old) head ≡ some message = ap (get_elem? (shown ring old)) head-is ∙ first.1 in
        let sent-at : get_elem? (messages (sent ring sender)) head ≡ some message = ap (λ l. get_elem? l head) r.holds.shows.is ∙ at_longer (shown ring old) r.holds.shows.rest head message shown-at in
        let filled : get_elem? s.homes cell ≡ some (some (Some message)) = ap (λ (k : ℕ). get_elem? s.homes (slot plan.cells ring k)) (sym head-is)
        ∙ r.lie.full head message (omega arith) (λ e. ap (fetching ring) pre.0) sent-at in
        let some-sent : head < tail = omega (arith, shown-le plan.cells ring head tail s.homes sender old r, pre.2) in (
          Is plan s h id a new,
          takes cell (Some message),
          filled,
          subst (λ (ws : List ℕ). IsCable plan record { words = ws; homes = set s.homes cell none; views = set s.views id (Is plan s h id a new) }) (sym (set-get_or s.words (head_word ring) 0))
              (ring_step plan s h id a at new (h.own a) s.words (set s.homes cell none) same refl (length-set s.homes cell none) refl ring refl (λ o ne. (refl, refl))
              (λ o k ne. set_else s.homes cell (slot plan.cells o k) none (slots_apart plan.cells o ring k (length (moved ring old)) h.limits.some_cell ne)) (pending_off_beat old (Fetching ring message))
              (λ o ne. pending_aside o old (Fetching ring message) (sym (ap (taken_before_ticket o) pre.0)) (sym (ap (putting o) pre.0)) (other_ring ring o (message ∷ []) [] (λ e. ne (sym e)) ∙ sym (ap (fetching o) pre.0)))
              (λ spec is. as_taker plan.cells ring h.traces a spec.from spec.to new head tail s.homes head tail (set s.homes cell none) same (λ t. Unit {0}) (λ q. tt) tt (taker_is plan.rings ring a spec pre.1 is)
              (λ t q z. subst (λ (k : ℕ). IsRing plan.cells ring head tail (set s.homes (slot plan.cells ring k) none) t new) head-is
              (taker_fetches plan.cells ring head tail s.homes t old z message pre.0 shown-at some-sent))
              (record { sends = refl; refusals = refl }) (sym (ap (putting ring) pre.0)) (h.rings ring spec is))),
          (message, first.1, refl),
        )

  pub may_see_cell : (acting : Acting M) → MayTake acting
      → Allows (IsCable plan) slots id (Actor acting, []) (head_word ring) (λ n. n) (saw_cell (step slots (head_word ring) 0 0 none) (Actor acting, []))
  may_see_cell acting pre = by_rule plan slots id (head_word ring) (λ n. n) (saw_cell (step slots (head_word ring) 0 0 none)) MayTake acting [] pre
      (λ s h deep at pre'. let f = fetched s h acting.actor at pre' in (
        f.0,
        f.1,
        f.2,
        f.3,
        λ r ew. let one : ring ≡ r = omega arith in
            subst (λ (z : ℕ). FoundCell (Actor (as_ruled plan s h acting.actor), []) (f.0, carried_after [] f.1) z) one f.4,
      ))

  -- the head is stored by the taker
  abbrev pub MayStoreHead : M → ℕ → List (ℕ × Option M) → Acting M → Type 0
  MayStoreHead message value c x = (x.trace.pending ≡ Fetching ring message) × (taker_at x.plan.rings ring ≡ suc x.actor) × (value ≡ length (moved ring x.trace) + 1)
      × (c ≡ (slot x.plan.cells ring (length (moved ring x.trace)), None) ∷ [])

  fetching-same : (r r' : ℕ) (m m' : M) → Fetching r m ≡ Fetching r' m' → (r ≡ r') × (m ≡ m')
  fetching-same r r' m m' e = let one : r ≡ r' = cc in let two : m ≡ m' = cc in (one, two)

  module _ (s : State (Option M) (View M)) (h : IsCable plan s) (a : ℕ) (at : get_elem? s.views id ≡ some (Actor (as_ruled plan s h a))) where
    head-stored : (message : M) (value : ℕ) → (h.traces a).pending ≡ Fetching ring message → taker_at plan.rings ring ≡ suc a → value ≡ length (moved ring (h.traces a)) + 1
        → IsCable plan (stepped s (head_word ring) value id ((slot plan.cells ring (length (moved ring (h.traces a))), None) ∷ []) (Is plan s h id a (with_pending (h.traces a) (Took ring message))) gives)
    head-stored message value p ends v-is =
        let old : Trace M = h.traces a in
        let new : Trace M = with_pending old (Took ring message) in
        let same : drawn new ≡ drawn old = ap (λ q. drawn (with_pending old q)) (sym p) in
        let cell : ℕ = slot plan.cells ring (length (moved ring old)) in
        let homes : List (maybe.Option (Option M)) = set s.homes cell (some None) in
        let words : List ℕ = set s.words (head_word ring) value in
        let there = taker_there plan.rings ring a ends in
        let below : ring < length plan.rings = at-lt plan.rings ring there.0 there.1 in
        let inside : head_word ring < length s.words = omega (arith, h.words) in
        let head-now : get_or words (head_word ring) 0 ≡ value = get_or-set_same s.words (head_word ring) value 0 inside in
        let tail-now : get_or words (tail_word ring) 0 ≡ get_or s.words (tail_word ring) 0 = get_or-set_other s.words (head_word ring) (tail_word ring) value 0 (λ e. omega arith) in
        ring_step plan s h id a at new (h.own a) words homes same (length-set s.words (head_word ring) value) (length-set s.homes cell (some None))
        (get_or-set_other s.words (head_word ring) 0 value 0 (λ e. omega arith)) ring (get_or-set_other s.words (head_word ring) 8 value 0 (λ e. omega arith))
        (λ o ne. (get_or-set_other s.words (head_word ring) (head_word o) value 0 (λ e. ne (omega arith)), get_or-set_other s.words (head_word ring) (tail_word o) value 0 (λ e. omega arith)))
        (λ o k ne. set_else s.homes cell (slot plan.cells o k) (some None) (slots_apart plan.cells o ring k (length (moved ring old)) h.limits.some_cell ne))
        (pending_off_beat old (Took ring message))
        (λ o ne. let apart : ring ≢ o = λ e. ne (sym e) in
        pending_aside o old (Took ring message) (other_ring ring o (message ∷ []) [] apart ∙ sym (ap (taken_before_ticket o) p)) (sym (ap (putting o) p))
        (sym (ap (fetching o) p ∙ other_ring ring o (message ∷ []) [] apart)))
        (λ spec is. as_taker plan.cells ring h.traces a spec.from spec.to new (get_or s.words (head_word ring) 0) (get_or s.words (tail_word ring) 0) s.homes
        (get_or words (head_word ring) 0) (get_or words (tail_word ring) 0) homes same (λ t. Unit {0}) (λ q. tt) tt (taker_is plan.rings ring a spec ends is)
        (λ t u q. let long-is : get_or s.words (head_word ring) 0 ≡ length (moved ring old) = q.head_is in
        let next-is : get_or s.words (head_word ring) 0 + 1 ≡ get_or words (head_word ring) 0 = omega arith in
        let within : slot plan.cells ring (get_or s.words (head_word ring) 0) < length s.homes = subst (λ (n : ℕ). slot plan.cells ring (get_or s.words (head_word ring) 0) < n) (sym h.slots)
        (slot-lt plan.cells (length plan.rings) ring (get_or s.words (head_word ring) 0) h.limits.some_cell below) in
        let r : IsRing plan.cells ring (get_or s.words (head_word ring) 0 + 1) (get_or s.words (tail_word ring) 0) (set s.homes (slot plan.cells ring (get_or s.words (head_word ring) 0)) (some None)) t new =
        taker_stores plan.cells ring (get_or s.words (head_word ring) 0) (get_or s.words (tail_word ring) 0) s.homes t old q message p within in
        subst (λ (n : ℕ). IsRing plan.cells ring (get_or words (head_word ring) 0) n homes t new) (sym tail-now)
        (subst (λ (n : ℕ). IsRing plan.cells ring n (get_or s.words (tail_word ring) 0) homes t new) next-is
        (subst (λ (n : ℕ). IsRing plan.cells ring (get_or s.words (head_word ring) 0 + 1) (get_or s.words (tail_word ring) 0) (set s.homes (slot plan.cells ring n) (some None)) t new) long-is r)))
        (record { sends = refl; refusals = refl }) (sym (ap (putting ring) p)) (h.rings ring spec is))

  pub may_store_head : (message : M) (value : ℕ) (acting : Acting M) (c : List (ℕ × Option M)) → MayStoreHead message value c acting
      → Allows (IsCable plan) slots id (Actor acting, c) (head_word ring) (λ _. value) (λ _. stored_head (step slots (head_word ring) value 0 none) (Actor acting, c) value)
  may_store_head message value acting c pre = by_rule plan slots id (head_word ring) (λ _. value) (λ me found new. stored_head (step slots (head_word ring) value 0 none) me value new) (MayStoreHead message value c) acting c pre
      (λ s h deep at pre'. let a : ℕ = acting.actor in let new : Trace M = with_pending (h.traces a) (Took ring message) in (
        Is plan s h id a new,
        gives,
        tt,
        subst (λ (cs : List (ℕ × Option M)). IsCable plan (stepped s (head_word ring) value id cs (Is plan s h id a new) gives)) (sym pre'.3) (head-stored s h a at message value pre'.0 pre'.1 pre'.2),
        (λ r m ep. let one = fetching-same ring r message m (sym pre'.0 ∙ ep) in
            λ i. (Is plan s h id a (with_pending (h.traces a) (Took (one.0 i) (one.1 i))), carried_after c gives)),
      ))
