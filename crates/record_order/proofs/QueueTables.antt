-- The messages that wait in rings, and what a step does to them.
use Rattle.std.proofs.Common.{◌≡◌, ℕ, zero, suc, ◌+◌, ◌-◌, ◌<◌, ◌==◌, Bool, true, false, List, [], ◌∷◌, ◌++◌, length, map, drop, slice_set, All, Some, refl, sym, ap, subst, ◌∙◌, ⊎_elim, arith, eqb-true, ne_eqb, eq-eqb}
use Rattle.std.specs.List.{slice_get}
use Rattle.std.specs.Option.{unwrap_or}
use Rattle.std.proofs.lemmas.Bool.{cases_eq, and_left, and_right, and_from}
use Rattle.std.proofs.lemmas.List.{map-append, drop-append-le, drop-drop, length-append, length-drop, length-map}
use Rattle.std.proofs.lemmas.List.Elements.{All-head}
use Rattle.step_law.specs.declared.entry.Entry.{Entry}
use Rattle.step_law.specs.declared.entry.Kind.{Kind}
use Rattle.step_law.specs.declared.entry.Kind.TheVariants.{Take, Send}
use Rattle.step_law.specs.declared.ring.Ring.{Ring}
use Rattle.step_law.specs.Ring.{ring_number, ring_at}
use Rattle.step_law.proofs.EventLaws.{ring_same}
use Rattle.record_law.specs.declared.shape.Shape.{Shape}
use Rattle.record_law.specs.Entries.{kind_number, is_kind, is_on}
use Rattle.record_law.specs.History.{one_more, count, put_last, sent_on, message_at, next_on, waiting}
use Rattle.record_law.specs.Message.{Message as Meant, History}
use Rattle.record_terms.specs.declared.message.Message.{Message}
use Rattle.record_terms.specs.declared.message.Message.TheVariants.{Nothing}
use Rattle.order_base.specs.Answer.{step_of}
use Rattle.record_terms.specs.Message.{meaning_of}
use Rattle.order_base.specs.There.{IsThere}
use Rattle.order_base.proofs.Lists.{get_set_same, get_set_other}
use Rattle.record_order.specs.Waiting.{Waiting, first_of, with_message, without_first}
use Rattle.record_order.specs.Queues.{IsQueue, AreQueues, AreThere, HaveRoom}

-- an entry is of one kind
pub no_take : (e : Entry) → is_kind Send e ≡ true → is_kind Take e ≡ false
no_take e send = let sends = eqb-true (kind_number e.kind) (kind_number Send) send in ne_eqb (kind_number e.kind) (kind_number Take) (λ take. absurd (omega (arith, sends, take)))

no_send : (e : Entry) → is_kind Take e ≡ true → is_kind Send e ≡ false
no_send e take = let takes = eqb-true (kind_number e.kind) (kind_number Take) take in ne_eqb (kind_number e.kind) (kind_number Send) (λ send. absurd (omega (arith, takes, send)))

-- ---- a ring's queue

module _ (e : Entry) (about : Message) (h : History) where
  -- what counts of an entry
  kept : (ring : Ring) (messages : List Message) → is_on Send ring e ≡ false → is_on Take ring e ≡ false → IsQueue ring messages h → IsQueue ring messages (step_of e about ∷ h)
  kept ring messages send take are =
      let t : ℕ = count Take ring h in
      let sent : List Meant = sent_on ring h in
      let takes : one_more (is_on Take ring e) t ≡ t = ap (λ b. one_more b t) take in
      let sends : put_last (is_on Send ring e) (meaning_of about) sent ≡ sent = ap (λ b. put_last b (meaning_of about) sent) send in
      let all : length (put_last (is_on Send ring e) (meaning_of about) sent) ≡ length sent = ap length sends in
      let few = are.taken in record {
        taken = omega (arith, few, takes, all);
        waiting = are.waiting ∙ ap (λ n. drop n sent) (sym takes) ∙ ap (drop (one_more (is_on Take ring e) t)) (sym sends);
      }

  sent : (ring : Ring) (messages : List Message) → is_on Send ring e ≡ true → is_on Take ring e ≡ false → IsQueue ring messages h
      → IsQueue ring (messages ++ about ∷ []) (step_of e about ∷ h)
  sent ring messages send take are =
      let t : ℕ = count Take ring h in
      let before : List Meant = sent_on ring h in
      let m : Meant = meaning_of about in
      let takes : one_more (is_on Take ring e) t ≡ t = ap (λ b. one_more b t) take in
      let sends : put_last (is_on Send ring e) m before ≡ before ++ m ∷ [] = ap (λ b. put_last b m before) send in
      let all : length (put_last (is_on Send ring e) m before) ≡ length before + 1 = ap length sends ∙ length-append before (m ∷ []) in
      let few = are.taken in record {
        taken = omega (arith, few, takes, all);
        waiting =
            map-append meaning_of messages (about ∷ [])
            ∙ ap (λ ms. ms ++ m ∷ []) are.waiting
            ∙ sym (drop-append-le t before (m ∷ []) few)
            ∙ ap (λ n. drop n (before ++ m ∷ [])) (sym takes)
            ∙ ap (drop (one_more (is_on Take ring e) t)) (sym sends);
      }

  map_drop : (messages : List Message) → map meaning_of (drop 1 messages) ≡ drop 1 (map meaning_of messages)
  map_drop [] = refl
  map_drop (m ∷ ms) = refl

  taken : (ring : Ring) (messages : List Message) → is_on Send ring e ≡ false → is_on Take ring e ≡ true → 0 < length messages → IsQueue ring messages h
      → IsQueue ring (drop 1 messages) (step_of e about ∷ h)
  taken ring messages send take some are =
      let t : ℕ = count Take ring h in
      let before : List Meant = sent_on ring h in
      let takes : one_more (is_on Take ring e) t ≡ suc t = ap (λ b. one_more b t) take in
      let sends : put_last (is_on Send ring e) (meaning_of about) before ≡ before = ap (λ b. put_last b (meaning_of about) before) send in
      let all : length (put_last (is_on Send ring e) (meaning_of about) before) ≡ length before = ap length sends in
      let left : length messages ≡ length before - t = sym (length-map messages meaning_of) ∙ ap length are.waiting ∙ length-drop t before in
      let next : t + 1 ≡ suc t = omega arith in record {
        taken = omega (arith, left, some, takes, all);
        waiting =
            map_drop messages
            ∙ ap (drop 1) are.waiting
            ∙ drop-drop 1 t before
            ∙ ap (λ n. drop n before) (next ∙ sym takes)
            ∙ ap (drop (one_more (is_on Take ring e) t)) (sym sends);
      }

  -- ---- all rings

  this : (kind : Kind) → is_kind kind e ≡ true → is_on kind (ring_at e.a) e ≡ true
  this kind is = and_from (is_kind kind e) (e.a == ring_number (ring_at e.a)) is (eq-eqb e.a (ring_number (ring_at e.a)) (sym (ring_same e.a)))

  other : (kind : Kind) (ring : ℕ) → (e.a ≡ ring → ⊥) → is_on kind (ring_at ring) e ≡ false
  other kind ring differ =
      and_right (is_kind kind e) (e.a == ring_number (ring_at ring)) (ne_eqb e.a (ring_number (ring_at ring)) (λ same. differ (same ∙ ring_same ring)))

  none : (kind : Kind) (ring : Ring) → is_kind kind e ≡ false → is_on kind ring e ≡ false
  none kind ring isnt = and_left (is_kind kind e) (e.a == ring_number ring) isnt

  set_queue : (queues : List Waiting) (new : Waiting) → IsQueue (ring_at e.a) new.messages (step_of e about ∷ h) → AreQueues queues h
      → AreQueues (slice_set queues e.a new) (step_of e about ∷ h)
  set_queue queues new is are ring it at =
      ⊎_elim
      (λ (same : e.a ≡ ring).
      let here : it ≡ new = get_set_same queues e.a new it (ap (slice_get (slice_set queues e.a new)) same ∙ at) in
      subst (λ (n : ℕ). IsQueue (ring_at n) it.messages (step_of e about ∷ h)) same
      (subst (λ (w : Waiting). IsQueue (ring_at e.a) w.messages (step_of e about ∷ h)) (sym here) is))
      (λ (differ : e.a ≡ ring → ⊥).
      kept (ring_at ring) it.messages (other Send ring differ) (other Take ring differ)
      (are ring it (sym (get_set_other queues e.a ring new differ) ∙ at)))
      (cases_eq e.a ring)

  pub queues_sent : (queues : List Waiting) (it : Waiting) → slice_get queues e.a ≡ Some it → is_kind Send e ≡ true → AreQueues queues h
      → AreQueues (slice_set queues e.a (with_message it about)) (step_of e about ∷ h)
  queues_sent queues it at send are =
      set_queue queues (with_message it about) (sent (ring_at e.a) it.messages (this Send send) (none Take (ring_at e.a) (no_take e send)) (are e.a it at)) are

  pub queues_taken : (queues : List Waiting) (it : Waiting) → slice_get queues e.a ≡ Some it → is_kind Take e ≡ true → 0 < length it.messages → AreQueues queues h
      → AreQueues (slice_set queues e.a (without_first it)) (step_of e about ∷ h)
  queues_taken queues it at take some are =
      set_queue queues (without_first it) (taken (ring_at e.a) it.messages (none Send (ring_at e.a) (no_send e take)) (this Take take) some (are e.a it at)) are

  pub queues_kept : (queues : List Waiting) → is_kind Send e ≡ false → is_kind Take e ≡ false → AreQueues queues h → AreQueues queues (step_of e about ∷ h)
  queues_kept queues send take are ring it at = kept (ring_at ring) it.messages (none Send (ring_at ring) send) (none Take (ring_at ring) take) (are ring it at)

-- ---- what stays

pub there_set : (s : Shape) (queues : List Waiting) (k : ℕ) (new : Waiting) → All (IsThere s) new.messages → AreThere s queues → AreThere s (slice_set queues k new)
there_set s queues k new is are ring it at =
    ⊎_elim
    (λ (same : k ≡ ring).
    let here : it ≡ new = get_set_same queues k new it (ap (slice_get (slice_set queues k new)) same ∙ at) in
    subst (λ (w : Waiting). All (IsThere s) w.messages) (sym here) is)
    (λ (differ : k ≡ ring → ⊥). are ring it (sym (get_set_other queues k ring new differ) ∙ at))
    (cases_eq k ring)

pub room_set : (room : ℕ) (queues : List Waiting) (k : ℕ) (new : Waiting) → new.room ≡ room → HaveRoom room queues → HaveRoom room (slice_set queues k new)
room_set room queues k new is have ring it at =
    ⊎_elim
    (λ (same : k ≡ ring).
    let here : it ≡ new = get_set_same queues k new it (ap (slice_get (slice_set queues k new)) same ∙ at) in ap (λ (w : Waiting). w.room) here ∙ is)
    (λ (differ : k ≡ ring → ⊥). have ring it (sym (get_set_other queues k ring new differ) ∙ at))
    (cases_eq k ring)

-- ---- what waits

message_drop : (sent : List Meant) (n : ℕ) → message_at (drop n sent) 0 ≡ message_at sent n
message_drop [] zero = refl
message_drop [] (suc n) = refl
message_drop (m ∷ ms) zero = refl
message_drop (m ∷ ms) (suc n) = message_drop ms n

first_meant : (messages : List Message) → meaning_of (unwrap_or (first_of messages) Nothing) ≡ message_at (map meaning_of messages) 0
first_meant [] = refl
first_meant (m ∷ ms) = refl

pub first_next : (ring : Ring) (messages : List Message) (h : History) → IsQueue ring messages h → meaning_of (unwrap_or (first_of messages) Nothing) ≡ next_on ring h
first_next ring messages h are =
    first_meant messages ∙ ap (λ sent. message_at sent 0) are.waiting ∙ message_drop (sent_on ring h) (count Take ring h)

pub first_there : (s : Shape) (messages : List Message) → All (IsThere s) messages → IsThere s (unwrap_or (first_of messages) Nothing)
first_there s [] all = tt
first_there s (m ∷ ms) all = All-head (IsThere s) m ms all

count_sent : (ring : Ring) (h : History) → length (sent_on ring h) ≡ count Send ring h
count_sent ring [] = refl
count_sent ring (x ∷ h) = by (is_on Send ring x.entry) (count_sent ring h)
  where
    by : (b : Bool) → length (sent_on ring h) ≡ count Send ring h → length (put_last b x.about (sent_on ring h)) ≡ one_more b (count Send ring h)
    by true same = let pushed = length-append (sent_on ring h) (x.about ∷ []) in omega (arith, pushed, same)
    by false same = same

pub waiting_is : (ring : Ring) (messages : List Message) (h : History) → IsQueue ring messages h → length messages ≡ waiting ring h
waiting_is ring messages h are =
    sym (length-map messages meaning_of)
    ∙ ap length are.waiting
    ∙ length-drop (count Take ring h) (sent_on ring h)
    ∙ ap (λ n. n - count Take ring h) (count_sent ring h)
