-- What a draw does to the tickets.
use Rattle.std.proofs.Common.{◌≡◌, ◌≢◌, ℕ, zero, suc, ◌+◌, ◌*◌, ◌^◌, ◌<◌, ◌≤◌, ◌⊎◌, List, [], ◌∷◌, ◌++◌, map, length, get_or, refl, sym, ap, subst, ◌∙◌, ⊎_elim, inl, inr, suc-mul, arith}
use native.Mathlib.Decide.{ℕ_discrete}
use Rattle.std.specs.List.{All, AllPairs, Contains}
use Rattle.std.proofs.lemmas.List.{append-nil, length-append, get_or_append_left, get_or_push}
use Rattle.std.proofs.lemmas.List.Elements.{All-nil, All-cons, All-push, All-head, All-tail, Contains-push_cases}
use Rattle.std.proofs.lemmas.List.Quantifiers.{all_pairs_push}
use Rattle.cable_trace.specs.declared.trace.Event.{Event}
use Rattle.cable_trace.specs.declared.trace.Trace.{Trace}
use Rattle.cable_trace.specs.Trace.{pending_ticket, drawn}
use Rattle.cable_trace.specs.Step.{IsAbove}
use Rattle.cable_ring.specs.Drawn.{total, AreTickets}
use Rattle.cable_ring.proofs.Put.{put, put_here, put_else}

total_same : (n : ℕ) (f g : ℕ → ℕ) → ((k : ℕ) → k < n → f k ≡ g k) → total n f ≡ total n g
total_same zero f g same = refl
total_same (suc n) f g same = let before : total n f ≡ total n g = total_same n f g (λ k lt. same k (omega arith)) in let here : f n ≡ g n = same n (omega arith) in omega arith

-- one number is one more
total_more : (n : ℕ) (f g : ℕ → ℕ) (i : ℕ) → i < n → g i ≡ f i + 1 → ((k : ℕ) → k ≢ i → g k ≡ f k) → total n g ≡ total n f + 1
total_more zero f g i lt more same = absurd (omega arith)
total_more (suc n) f g i lt more same = go (λ below. total_more n f g i below more same) (ℕ_discrete n i)
  where
    go : (i < n → total n g ≡ total n f + 1) → Dec (n ≡ i) → total (suc n) g ≡ total (suc n) f + 1
    go fewer (yes e) = let before : total n g ≡ total n f = total_same n g f (λ k below. same k (λ k-is. omega arith)) in let here : g n ≡ f n + 1 = subst (λ (k : ℕ). g k ≡ f k + 1) (sym e) more in omega arith
    go fewer (no other) = let before : total n g ≡ total n f + 1 = fewer (omega arith) in let here : g n ≡ f n = same n other in omega arith

-- a sum of numbers that each have a bound
pub total-le : (n : ℕ) (f : ℕ → ℕ) (most : ℕ) → ((k : ℕ) → f k ≤ most) → total n f ≤ n * most
total-le zero f most each = omega arith
total-le (suc n) f most each = let before : total n f ≤ n * most = total-le n f most each in let here : f n ≤ most = each n in let x : ℕ = n * most in
    let next : suc n * most ≡ x + most = suc-mul n most in omega arith

-- the last of tickets that rise is above the others
rising_last : (xs : List ℕ) (x : ℕ) → AllPairs (λ earlier later. earlier < later) (xs ++ x ∷ []) → All (λ t. t < x) xs
rising_last xs x rise k d lt = let long : length (xs ++ x ∷ []) ≡ length xs + 1 = length-append xs (x ∷ []) in
    let r : get_or (xs ++ x ∷ []) k d < get_or (xs ++ x ∷ []) (length xs) d = rise k (length xs) d lt (omega arith) in
    let a : get_or (xs ++ x ∷ []) k d ≡ get_or xs k d = get_or_append_left xs (x ∷ []) d k lt in
    let b : get_or (xs ++ x ∷ []) (length xs) d ≡ x = get_or_push xs x d (length xs) refl in omega arith

module _ {M : Type 0} where
  -- what holds of the first of a list of tickets holds of events
  events_where : (P : ℕ → Type 0) (events : List (Event M)) (more : List ℕ) → All P (map (λ event. event.ticket) events ++ more) → All (λ event. P event.ticket) events
  events_where P [] more k = All-nil (λ event. P event.ticket)
  events_where P (event ∷ events) more k =
      All-cons (λ x. P x.ticket) event events (All-head P event.ticket (map (λ x. x.ticket) events ++ more) k)
      (events_where P events more (All-tail P event.ticket (map (λ x. x.ticket) events ++ more) k))

  -- a number above all tickets is above those of events
  pub above_events : (ticket : ℕ) (trace : Trace M) → All (λ t. t < ticket) (drawn trace) → IsAbove ticket trace
  above_events ticket trace h = events_where (λ t. t < ticket) trace.events (pending_ticket trace.pending) h

  -- and the ticket that is pending is
  pub pending_above : (ticket : ℕ) (trace : Trace M) → pending_ticket trace.pending ≡ ticket ∷ [] → AllPairs (λ earlier later. earlier < later) (drawn trace) → IsAbove ticket trace
  pending_above ticket trace e rise =
      let tickets : List ℕ = map (λ event. event.ticket) trace.events in
      let rise' : AllPairs (λ earlier later. earlier < later) (tickets ++ ticket ∷ []) = subst (λ l. AllPairs (λ earlier later. earlier < later) (tickets ++ l)) e rise in
      events_where (λ t. t < ticket) trace.events [] (subst (All (λ t. t < ticket)) (sym (append-nil tickets)) (rising_last tickets ticket rise'))

-- the counter hands out its number to an actor
module _ (first actors next : ℕ) (tickets now : ℕ → List ℕ) (h : AreTickets first actors next tickets) (actor : ℕ) (known : actor < actors)
    (more : now actor ≡ tickets actor ++ next ∷ []) (same : (other : ℕ) → other ≢ actor → now other ≡ tickets other) (few : length (tickets actor) < 2 ^ 56) where
  by_cases : (P : ℕ → List ℕ → Type 0) → P actor (tickets actor ++ next ∷ []) → ((other : ℕ) → other ≢ actor → P other (tickets other)) → (k : ℕ) → P k (now k)
  by_cases P here there k = go (ℕ_discrete k actor)
    where
      go : Dec (k ≡ actor) → P k (now k)
      go (yes e) = subst (λ (i : ℕ). P i (now i)) (sym e) (subst (P actor) (sym more) here)
      go (no other) = subst (P k) (sym (same k other)) (there k other)

  one_more : length (now actor) ≡ length (tickets actor) + 1
  one_more = ap (λ (l : List ℕ). length l) more ∙ length-append (tickets actor) (next ∷ [])

  higher : (k : ℕ) → All (λ ticket. (first ≤ ticket) × (ticket < next + 1)) (tickets k)
  higher k = λ i d lt. let w = h.within k i d lt in (w.0, omega (arith, w.1))

  first-le : first ≤ next
  first-le = omega (arith, h.counted)

  -- a ticket of the actor is an old one or the counter's number
  which : (k ticket : ℕ) → Contains (now k) ticket → (Contains (tickets k) ticket) ⊎ ((k ≡ actor) × (ticket ≡ next))
  which k ticket c = by_cases (λ i l. (t : ℕ) → Contains l t → (Contains (tickets i) t) ⊎ ((i ≡ actor) × (t ≡ next)))
      (λ t has. ⊎_elim (λ old. inl old) (λ new. inr (refl, sym new)) (Contains-push_cases (tickets actor) next t has)) (λ other ne t has. inl has) k ticket c

  -- no old ticket is the counter's number
  fresh_ticket : (k : ℕ) → Contains (tickets k) next → ⊥
  fresh_ticket k c = let w = h.within k c.0 next c.1 in let below : get_or (tickets k) c.0 next < next = w.1 in let is : get_or (tickets k) c.0 next ≡ next = c.2 in omega arith

  pub tickets_drawn : AreTickets first actors (next + 1) now
  tickets_drawn = record {
    counted = omega (arith, h.counted, total_more actors (λ k. length (tickets k)) (λ k. length (now k)) actor known one_more (λ k ne. ap (λ (l : List ℕ). length l) (same k ne)));
    few = by_cases (λ k l. length l ≤ 2 ^ 56) (omega (arith, length-append (tickets actor) (next ∷ []))) (λ other ne. h.few other);
    within = by_cases (λ k l. All (λ ticket. (first ≤ ticket) × (ticket < next + 1)) l)
        (All-push (λ ticket. (first ≤ ticket) × (ticket < next + 1)) (tickets actor) next (higher actor) (first-le, omega arith)) (λ other ne. higher other);
    rise = by_cases (λ k l. AllPairs (λ earlier later. earlier < later) l)
        (all_pairs_push (λ earlier later. earlier < later) (tickets actor) next (h.rise actor) (λ k d lt. (h.within actor k d lt).1)) (λ other ne. h.rise other);
    apart = λ one other ticket a b. both one other ticket (which one ticket a) (which other ticket b);
  }
    where
      both : (one other ticket : ℕ) → (Contains (tickets one) ticket) ⊎ ((one ≡ actor) × (ticket ≡ next)) → (Contains (tickets other) ticket) ⊎ ((other ≡ actor) × (ticket ≡ next)) → one ≡ other
      both one other ticket (inl a) (inl b) = h.apart one other ticket a b
      both one other ticket (inl a) (inr b) = absurd (fresh_ticket one (subst (Contains (tickets one)) b.1 a))
      both one other ticket (inr a) (inl b) = absurd (fresh_ticket other (subst (Contains (tickets other)) a.1 b))
      both one other ticket (inr a) (inr b) = a.0 ∙ sym b.0

-- the same tickets under another name
pub tickets_same : (first actors next : ℕ) (tickets now : ℕ → List ℕ) → ((k : ℕ) → now k ≡ tickets k) → AreTickets first actors next tickets → AreTickets first actors next now
tickets_same first actors next tickets now same h = subst (AreTickets first actors next) (λ i k. sym (same k) i) h

-- the counter never goes round
pub counter-below : (first actors next : ℕ) (tickets : ℕ → List ℕ) → first < 2 ^ 60 → actors ≤ 16 → AreTickets first actors next tickets → next < 2 ^ 61
counter-below first actors next tickets low some h = let t : total actors (λ k. length (tickets k)) ≤ actors * 2 ^ 56 = total-le actors (λ k. length (tickets k)) (2 ^ 56) h.few in omega (arith, h.counted)

pub counter-lt : (first actors next : ℕ) (tickets : ℕ → List ℕ) → first < 2 ^ 60 → actors ≤ 16 → AreTickets first actors next tickets → next < 2 ^ 61 + 1
counter-lt first actors next tickets low some h = let lt = counter-below first actors next tickets low some h in omega arith

-- nobody has drawn a ticket yet
pub tickets_none : (first actors : ℕ) (tickets : ℕ → List ℕ) → ((k : ℕ) → tickets k ≡ []) → AreTickets first actors first tickets
tickets_none first actors tickets none = tickets_same first actors first (λ k. []) tickets none (record {
  counted = omega (arith, nothing actors);
  few = λ k. omega arith;
  within = λ k. All-nil (λ ticket. (first ≤ ticket) × (ticket < first));
  rise = λ k i j d lt below. absurd (omega arith);
  apart = λ one other ticket a b. absurd (omega (arith, a.1));
})
  where
    nothing : (n : ℕ) → total n (λ k. length {A = ℕ} []) ≡ 0
    nothing zero = refl
    nothing (suc n) = omega (arith, nothing n)
