-- What a step does to the whole cable.
use Rattle.std.proofs.Common.{◌≡◌, ◌≢◌, ℕ, zero, suc, ◌+◌, ◌*◌, ◌%◌, ◌^◌, ◌<◌, ◌≤◌, List, [], ◌∷◌, ◌++◌, map, length, get_or, set, Option, refl, sym, ap, subst, ◌∙◌, arith, mul-le-mul_right, suc-mul, length-set, get_or-set_other, get_or-set_same}
use mathlib.Core.Option as maybe
use mathlib.Core.Option.{some, none, some-injective, some-ne-none}
use native.Mathlib.Decide.{ℕ_discrete, dec_le}
use lib.ListN.{get_elem?}
use Rattle.std.specs.List.{All}
use Rattle.atomic_table.specs.Table.{State}
use Rattle.cable_trace.specs.declared.trace.Action.{Action}
use Rattle.cable_trace.specs.declared.trace.Action.TheVariants.{Taken, Stored, Loaded}
use Rattle.cable_trace.specs.declared.trace.Pending.TheVariants.{Drew, Took}
use Rattle.cable_trace.specs.declared.trace.Trace.{Trace}
use Rattle.cable_trace.specs.Trace.{pending_ticket, drawn}
use Rattle.cable_trace.specs.Step.{with_event, IsAbove}
use Rattle.cable_trace.proofs.Above.{above_sends, above_takes}
use Rattle.cable_trace.proofs.BeatKeeps.{above_stores, above_loads}
use Rattle.cable_ring.specs.declared.view.RingSpec.{RingSpec}
use Rattle.cable_ring.specs.declared.view.Plan.{Plan}
use Rattle.cable_ring.specs.declared.view.Acting.{Acting}
use Rattle.cable_ring.specs.declared.view.View.{View}
use Rattle.cable_ring.specs.declared.view.View.TheVariants.{Actor}
use Rattle.cable_ring.specs.Cells.{slot}
use Rattle.cable_ring.specs.Drawn.{AreTickets}
use Rattle.cable_ring.specs.Rule.{head_word, tail_word, IsRing, IsBeat, IsCable}
use Rattle.cable_ring.proofs.Put.{put, put_here, put_else, put_map}
use Rattle.cable_ring.proofs.CellSteps.{at-lt}
use Rattle.cable_ring.proofs.RingSteps.{ring_kept}
use Rattle.cable_ring.proofs.TicketSteps.{above_events, pending_above, tickets_drawn, tickets_same, counter-lt}
use Rattle.cable_ring.proofs.SeatSteps.{seats_go}
use Rattle.cable_ring.specs.Ends.{DidOwn}
use Rattle.cable_ring.proofs.Owned.{own_put}
use Rattle.cable_ring.proofs.Aside.{IsAside, IsOffBeat, ring_aside, ring_draws, ring_takes, beat_aside, beat_draws}

-- cells of different rings are different
apart-lt : (cells one two i j : ℕ) → 0 < cells → one < two → slot cells one i ≢ slot cells two j
apart-lt cells one two i j some_cell lt e = let a : suc one * cells ≤ two * cells = mul-le-mul_right cells lt in let b : i % cells < cells = omega arith in
    let x : ℕ = one * cells in let next : suc one * cells ≡ x + cells = suc-mul one cells in let y : ℕ = two * cells in let m : ℕ = i % cells in let n : ℕ = j % cells in
    let e' : x + m ≡ y + n = e in let a' : x + cells ≤ y = omega arith in let b' : m < cells = b in omega arith

pub slots_apart : (cells one two i j : ℕ) → 0 < cells → one ≢ two → slot cells one i ≢ slot cells two j
slots_apart cells one two i j some_cell ne e = go (dec_le one two)
  where
    go : Dec (one ≤ two) → ⊥
    go (yes le) = apart-lt cells one two i j some_cell (omega arith) e
    go (no gt) = apart-lt cells two one j i some_cell (omega arith) (sym e)

pub slot-lt : (cells rings ring i : ℕ) → 0 < cells → ring < rings → slot cells ring i < rings * cells
slot-lt cells rings ring i some_cell lt = let a : suc ring * cells ≤ rings * cells = mul-le-mul_right cells lt in let b : i % cells < cells = omega arith in
    let x : ℕ = ring * cells in let next : suc ring * cells ≡ x + cells = suc-mul ring cells in let y : ℕ = rings * cells in let m : ℕ = i % cells in
    let a' : x + cells ≤ y = omega arith in let b' : m < cells = b in omega arith

module _ {M : Type 0} (plan : Plan) (s : State (Option M) (View M)) (h : IsCable plan s) (id a : ℕ) where
  abbrev pub Was : View M
  Was = Actor (record { actor = a; plan = plan; trace = h.traces a })

  abbrev pub Is : Trace M → View M
  Is trace = Actor (record { actor = a; plan = plan; trace = trace })

  module _ (at : get_elem? s.views id ≡ some Was) where
    pub known-lt : a < plan.actors
    known-lt = let k = h.seated.knows id Was at in let below : a < h.seated.dealt = k.0 in omega (arith, h.seated.enough)

    pub counter-low : get_or s.words 0 0 < 2 ^ 61 + 1
    counter-low = counter-lt plan.first plan.actors (get_or s.words 0 0) (λ k. drawn (h.traces k)) h.limits.first h.limits.actors h.tickets

    -- the ticket that is pending is above all others of the actor
    pub own-above : (ticket : ℕ) → pending_ticket (h.traces a).pending ≡ ticket ∷ [] → IsAbove ticket (h.traces a)
    own-above ticket e = pending_above ticket (h.traces a) e (h.tickets.rise a)

    -- the counter is above all tickets
    pub all-below : (k : ℕ) → All (λ t. t < get_or s.words 0 0) (drawn (h.traces k))
    all-below k = λ i d lt. (h.tickets.within k i d lt).1

    -- a step at a ring
    module _ (new : Trace M) (owns : DidOwn plan.rings a new) (words : List ℕ) (homes : List (maybe.Option (Option M))) (same : drawn new ≡ drawn (h.traces a)) (wide : length words ≡ length s.words)
        (deep : length homes ≡ length s.homes) (counter : get_or words 0 0 ≡ get_or s.words 0 0) where
      drawn_as : (k : ℕ) → drawn (put h.traces a new k) ≡ drawn (h.traces k)
      drawn_as k = go (ℕ_discrete k a)
        where
          go : Dec (k ≡ a) → drawn (put h.traces a new k) ≡ drawn (h.traces k)
          go (yes e) = ap (λ i. drawn (put h.traces a new i)) e ∙ ap drawn (put_here h.traces a new) ∙ same ∙ ap (λ i. drawn (h.traces i)) (sym e)
          go (no ne) = ap drawn (put_else h.traces a new k ne)

      pub ring_step : (ring : ℕ) → get_or words 8 0 ≡ get_or s.words 8 0
          → ((other : ℕ) → other ≢ ring → (get_or words (head_word other) 0 ≡ get_or s.words (head_word other) 0) × (get_or words (tail_word other) 0 ≡ get_or s.words (tail_word other) 0))
          → ((other k : ℕ) → other ≢ ring → get_elem? homes (slot plan.cells other k) ≡ get_elem? s.homes (slot plan.cells other k))
          → IsOffBeat (h.traces a) new → ((other : ℕ) → other ≢ ring → IsAside other (h.traces a) new)
          → ((spec : RingSpec) → get_elem? plan.rings ring ≡ some spec
          → IsRing plan.cells ring (get_or words (head_word ring) 0) (get_or words (tail_word ring) 0) homes (put h.traces a new spec.from) (put h.traces a new spec.to))
          → IsCable plan record { words = words; homes = homes; views = set s.views id (Is new) }
      ring_step ring beat_word ends cells off aside here = record {
        traces = put h.traces a new;
        limits = h.limits;
        words = wide ∙ h.words;
        slots = deep ∙ h.slots;
        own = own_put plan.rings h.traces a new h.own owns;
        seated = seats_go plan h.traces s.views h.seated id (record { actor = a; plan = plan; trace = h.traces a }) at new;
        tickets = subst (λ (n : ℕ). AreTickets plan.first plan.actors n (λ k. drawn (put h.traces a new k))) (sym counter)
            (tickets_same plan.first plan.actors (get_or s.words 0 0) (λ k. drawn (h.traces k)) (λ k. drawn (put h.traces a new k)) drawn_as h.tickets);
        rings = λ q spec is. go q spec is (ℕ_discrete q ring);
        beat = subst (λ (n : ℕ). IsBeat n (put h.traces a new 0) (put h.traces a new 1)) (sym beat_word) (beat_aside (get_or s.words 8 0) h.traces a new off same h.beat);
      }
        where
          go : (q : ℕ) (spec : RingSpec) → get_elem? plan.rings q ≡ some spec → Dec (q ≡ ring)
              → IsRing plan.cells q (get_or words (head_word q) 0) (get_or words (tail_word q) 0) homes (put h.traces a new spec.from) (put h.traces a new spec.to)
          go q spec is (yes e) = subst (λ (i : ℕ). IsRing plan.cells i (get_or words (head_word i) 0) (get_or words (tail_word i) 0) homes (put h.traces a new spec.from) (put h.traces a new spec.to)) (sym e)
              (here spec (ap (get_elem? plan.rings) (sym e) ∙ is))
          go q spec is (no ne) =
              let was = ring_aside plan.cells q (get_or s.words (head_word q) 0) (get_or s.words (tail_word q) 0) s.homes h.traces a spec.from spec.to new (aside q ne) same (h.rings q spec is) in
              let ends' = ends q ne in
              subst (λ (n : ℕ). IsRing plan.cells q n (get_or words (tail_word q) 0) homes (put h.traces a new spec.from) (put h.traces a new spec.to)) (sym ends'.0)
              (subst (λ (n : ℕ). IsRing plan.cells q (get_or s.words (head_word q) 0) n homes (put h.traces a new spec.from) (put h.traces a new spec.to)) (sym ends'.1)
              (ring_kept plan.cells q (get_or s.words (head_word q) 0) (get_or s.words (tail_word q) 0) s.homes (put h.traces a new spec.from) (put h.traces a new spec.to) was homes (λ k. cells q k ne)))

      -- a step at the beat
      pub beat_step : ((ring : ℕ) → IsAside ring (h.traces a) new)
          → ((ring : ℕ) → (get_or words (head_word ring) 0 ≡ get_or s.words (head_word ring) 0) × (get_or words (tail_word ring) 0 ≡ get_or s.words (tail_word ring) 0)) → homes ≡ s.homes
          → IsBeat (get_or words 8 0) (put h.traces a new 0) (put h.traces a new 1) → IsCable plan record { words = words; homes = homes; views = set s.views id (Is new) }
      beat_step aside ends still beat = record {
        traces = put h.traces a new;
        limits = h.limits;
        words = wide ∙ h.words;
        slots = deep ∙ h.slots;
        own = own_put plan.rings h.traces a new h.own owns;
        seated = seats_go plan h.traces s.views h.seated id (record { actor = a; plan = plan; trace = h.traces a }) at new;
        tickets = subst (λ (n : ℕ). AreTickets plan.first plan.actors n (λ k. drawn (put h.traces a new k))) (sym counter)
            (tickets_same plan.first plan.actors (get_or s.words 0 0) (λ k. drawn (h.traces k)) (λ k. drawn (put h.traces a new k)) drawn_as h.tickets);
        rings = λ q spec is.
            let was = ring_aside plan.cells q (get_or s.words (head_word q) 0) (get_or s.words (tail_word q) 0) s.homes h.traces a spec.from spec.to new (aside q) same (h.rings q spec is) in
            let ends' = ends q in
            subst (λ (n : ℕ). IsRing plan.cells q n (get_or words (tail_word q) 0) homes (put h.traces a new spec.from) (put h.traces a new spec.to)) (sym ends'.0)
            (subst (λ (n : ℕ). IsRing plan.cells q (get_or s.words (head_word q) 0) n homes (put h.traces a new spec.from) (put h.traces a new spec.to)) (sym ends'.1)
            (subst (λ (hs : List (maybe.Option (Option M))). IsRing plan.cells q (get_or s.words (head_word q) 0) (get_or s.words (tail_word q) 0) hs (put h.traces a new spec.from) (put h.traces a new spec.to)) (sym still) was));
        beat = beat;
      }

    -- a step that draws a ticket
    module _ (new : Trace M) (owns : DidOwn plan.rings a new) (words : List ℕ) (more : drawn new ≡ drawn (h.traces a) ++ get_or s.words 0 0 ∷ []) (few : length (drawn (h.traces a)) < 2 ^ 56)
        (wide : length words ≡ length s.words) (counter : get_or words 0 0 ≡ get_or s.words 0 0 + 1) (beat_word : get_or words 8 0 ≡ get_or s.words 8 0)
        (ends : (ring : ℕ) → (get_or words (head_word ring) 0 ≡ get_or s.words (head_word ring) 0) × (get_or words (tail_word ring) 0 ≡ get_or s.words (tail_word ring) 0))
        (off : IsOffBeat (h.traces a) new) where
      pub all_above : (k : ℕ) → IsAbove (get_or s.words 0 0) (h.traces k)
      all_above k = above_events (get_or s.words 0 0) (h.traces k) (all-below k)

      more_as : drawn (put h.traces a new a) ≡ drawn (h.traces a) ++ get_or s.words 0 0 ∷ []
      more_as = ap drawn (put_here h.traces a new) ∙ more

      pub draw_step : ((ring : ℕ) (spec : RingSpec) → get_elem? plan.rings ring ≡ some spec
          → IsRing plan.cells ring (get_or s.words (head_word ring) 0) (get_or s.words (tail_word ring) 0) s.homes (put h.traces a new spec.from) (put h.traces a new spec.to))
          → IsCable plan record { words = words; homes = s.homes; views = set s.views id (Is new) }
      draw_step rings = record {
        traces = put h.traces a new;
        limits = h.limits;
        words = wide ∙ h.words;
        slots = h.slots;
        own = own_put plan.rings h.traces a new h.own owns;
        seated = seats_go plan h.traces s.views h.seated id (record { actor = a; plan = plan; trace = h.traces a }) at new;
        tickets = subst (λ (n : ℕ). AreTickets plan.first plan.actors n (λ k. drawn (put h.traces a new k))) (sym counter)
            (tickets_drawn plan.first plan.actors (get_or s.words 0 0) (λ k. drawn (h.traces k)) (λ k. drawn (put h.traces a new k)) h.tickets a known-lt more_as
            (λ other ne. ap drawn (put_else h.traces a new other ne)) few);
        rings = λ q spec is. let ends' = ends q in
            subst (λ (n : ℕ). IsRing plan.cells q n (get_or words (tail_word q) 0) s.homes (put h.traces a new spec.from) (put h.traces a new spec.to)) (sym ends'.0)
            (subst (λ (n : ℕ). IsRing plan.cells q (get_or s.words (head_word q) 0) n s.homes (put h.traces a new spec.from) (put h.traces a new spec.to)) (sym ends'.1) (rings q spec is));
        beat = subst (λ (n : ℕ). IsBeat n (put h.traces a new 0) (put h.traces a new 1)) (sym beat_word)
            (beat_draws (get_or s.words 8 0) h.traces a new off (get_or s.words 0 0) more
            (h.beat, above_stores (get_or s.words 0 0) (h.traces 0) (all_above 0), above_loads (get_or s.words 0 0) (h.traces 1) (all_above 1)));
      }

      -- a ring at which the step does nothing
      pub ring_beside : (ring : ℕ) (spec : RingSpec) → get_elem? plan.rings ring ≡ some spec → IsAside ring (h.traces a) new
          → IsRing plan.cells ring (get_or s.words (head_word ring) 0) (get_or s.words (tail_word ring) 0) s.homes (put h.traces a new spec.from) (put h.traces a new spec.to)
      ring_beside ring spec is aside = ring_draws plan.cells ring (get_or s.words (head_word ring) 0) (get_or s.words (tail_word ring) 0) s.homes h.traces a spec.from spec.to new (get_or s.words 0 0) aside more
          (h.rings ring spec is, above_sends ring (get_or s.words 0 0) (h.traces spec.from) (all_above spec.from), above_takes ring (get_or s.words 0 0) (h.traces spec.to) (all_above spec.to))
