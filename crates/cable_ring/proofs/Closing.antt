-- What is known of a cable when it is closed.
use Rattle.std.proofs.Common.{◌≡◌, ℕ, zero, suc, ◌+◌, ◌*◌, ◌%◌, ◌^◌, ◌<◌, ◌≤◌, List, [], ◌∷◌, ◌++◌, map, take, drop, length, get_or, set, Option, Some, None, refl, sym, ap, subst, ◌∙◌, arith}
use Rattle.std.proofs.lemmas.List.{append-nil}
use mathlib.Core.Option as maybe
use mathlib.Core.Option.{some, none, some-injective, some-ne-none}
use native.Mathlib.Decide.{dec_le}
use lib.ListN.{get_elem?, length-map}
use Rattle.atomic_table.specs.Table.{State, Seen, Final}
use Rattle.cable_trace.specs.declared.trace.Trace.{Trace}
use Rattle.cable_trace.specs.Trace.{drawn, sent, shown, taken, moved}
use Rattle.cable_trace.specs.Step.{fresh}
use Rattle.cable_trace.specs.Ring.{messages, RingHolds}
use Rattle.cable_trace.specs.Beat.{BeatHolds}
use Rattle.cable_trace.specs.Logs.{IsRingOf}
use Rattle.cable_ring.specs.declared.view.RingSpec.{RingSpec}
use Rattle.cable_ring.specs.declared.view.Plan.{Plan}
use Rattle.cable_ring.specs.declared.view.View.{View}
use Rattle.cable_ring.specs.declared.view.View.TheVariants.{Desk}
use Rattle.cable_ring.specs.Cells.{slot, putting, fetching}
use Rattle.cable_ring.specs.Drawn.{AreTickets}
use Rattle.cable_ring.specs.Seats.{Knows}
use Rattle.cable_ring.specs.Rule.{head_word, tail_word, IsRing, IsCable}
use Rattle.cable_ring.specs.Passes.{PassView, trace_at}
use Rattle.cable_ring.specs.Closed.{traces_of, AreLeft, IsKept}
use Rattle.cable_ring.specs.Emptied.{found_in, IsFoundAt}
use Rattle.cable_ring.proofs.CellSteps.{at-lt}
use Rattle.cable_ring.proofs.RingSteps.{long}
use Rattle.cable_ring.proofs.TicketSteps.{counter-below}
use Rattle.cable_ring.proofs.Emptying.{read_at, found_all}
use Rattle.cable_ring.proofs.Owned.{ring_of}

module _ {M : Type 0} where
  trace_there : (passes : List (PassView M)) (actor : ℕ) → actor < length passes → get_elem? (map trace_at passes) actor ≡ some (traces_of passes actor)
  trace_there [] actor lt = absurd (omega arith)
  trace_there (pass ∷ passes) zero lt = refl
  trace_there (pass ∷ passes) (suc actor) lt = trace_there passes actor (omega arith)

  trace_past : (passes : List (PassView M)) (actor : ℕ) → length passes ≤ actor → traces_of passes actor ≡ fresh
  trace_past [] actor le = refl
  trace_past (pass ∷ passes) zero le = absurd (omega arith)
  trace_past (pass ∷ passes) (suc actor) le = trace_past passes actor (omega arith)

  -- between calls nothing is pending
  pub at_rest : (passes : List (PassView M)) (actor ring : ℕ) → moved ring (traces_of passes actor) ≡ messages (taken ring (traces_of passes actor))
  at_rest [] actor ring = append-nil []
  at_rest (pass ∷ passes) zero ring = append-nil (messages (taken ring (trace_at pass)))
  at_rest (pass ∷ passes) (suc actor) ring = at_rest passes actor ring

module _ {M : Type 0} (plan : Plan) (s : State (Option M) (View M)) (h : IsCable plan s) (id : ℕ) (passes : List (PassView M)) (all : length passes ≡ plan.actors)
    (at : get_elem? s.views id ≡ some (Desk plan plan.actors (map trace_at passes))) where
  -- the traces are those that were gathered
  gathered : (actor : ℕ) → h.traces actor ≡ traces_of passes actor
  gathered actor = go (dec_le (length passes) actor)
    where
      known : Knows plan h.traces h.seated.desk h.seated.dealt h.seated.owner id (Desk plan plan.actors (map trace_at passes))
      known = h.seated.knows id (Desk plan plan.actors (map trace_at passes)) at

      go : Dec (length passes ≤ actor) → h.traces actor ≡ traces_of passes actor
      go (yes le) = h.seated.waits actor (let dealt : plan.actors ≡ h.seated.dealt = known.2 in omega arith) ∙ sym (trace_past passes actor le)
      go (no lt) = sym (known.3 actor (traces_of passes actor) (trace_there passes actor (omega arith))).2

  same : h.traces ≡ traces_of passes
  same = λ i actor. gathered actor i

  rings_are : (ring : ℕ) (spec : RingSpec) → get_elem? plan.rings ring ≡ some spec
      → IsRing plan.cells ring (get_or s.words (head_word ring) 0) (get_or s.words (tail_word ring) 0) s.homes (traces_of passes spec.from) (traces_of passes spec.to)
  rings_are ring spec is = subst (λ (t : ℕ → Trace M). IsRing plan.cells ring (get_or s.words (head_word ring) 0) (get_or s.words (tail_word ring) 0) s.homes (t spec.from) (t spec.to)) same (h.rings ring spec is)

  pub kept_at : IsKept plan (get_or s.words 0 0) (traces_of passes)
  kept_at = record {
    tickets = subst (λ (t : ℕ → Trace M). AreTickets plan.first plan.actors (get_or s.words 0 0) (λ actor. drawn (t actor))) same h.tickets;
    rings = λ ring spec is. (rings_are ring spec is).holds;
    ends = subst (λ (t : ℕ → Trace M). (ring : ℕ) (spec : RingSpec) → get_elem? plan.rings ring ≡ some spec → IsRingOf ring spec.from spec.to t) same (ring_of plan.rings h.traces h.own);
    beat = subst (λ (t : ℕ → Trace M). BeatHolds (t 0) (t 1)) same h.beat.holds;
  }

  pub low_at : get_or s.words 0 0 < 2 ^ 61
  low_at = counter-below plan.first plan.actors (get_or s.words 0 0) (λ k. drawn (h.traces k)) h.limits.first h.limits.actors h.tickets

  -- the cells of a ring have what was sent and not taken
  pub row_at : (slots : List (Option M)) → ((k : ℕ) (y : Option M) → get_elem? s.homes k ≡ some (some y) → get_elem? slots k ≡ some y) → (ring : ℕ) (spec : RingSpec) → get_elem? plan.rings ring ≡ some spec
      → (row : List M) → IsFoundAt s.words slots plan.cells ring row → row ≡ drop (length (taken ring (traces_of passes spec.to))) (messages (sent ring (traces_of passes spec.from)))
  row_at slots stay ring spec is row found =
      let r = rings_are ring spec is in
      let head : ℕ = get_or s.words (head_word ring) 0 in
      let tail : ℕ = get_or s.words (tail_word ring) 0 in
      let from : Trace M = traces_of passes spec.from in
      let to : Trace M = traces_of passes spec.to in
      let ms : List M = messages (sent ring from) in
      let head-is : head ≡ length (taken ring to) = r.head_is ∙ ap (λ (l : List M). length l) (at_rest passes spec.to ring) ∙ length-map (taken ring to) (λ (pair : ℕ × M). pair.1) in
      let long-is : length ms ≡ tail = long plan.cells ring head tail s.homes from to r in
      found ∙ found_all plan.cells ring head slots ms
      (λ number message le e. read_at slots (slot plan.cells ring number) None (Some message) (stay (slot plan.cells ring number) (Some message) (r.lie.full number message le (λ here. no_fetch passes spec.to) e)))
      (λ number le lt. read_at slots (slot plan.cells ring number) None None (stay (slot plan.cells ring number) None (r.lie.empty number (omega arith) lt (λ here. no_put passes spec.from))))
      (omega (arith, r.holds.room, r.tail_is, r.head_is, long-is)) ∙ ap (λ (n : ℕ). drop n ms) head-is
    where
      no_fetch : (passes : List (PassView M)) (actor : ℕ) → fetching ring (traces_of passes actor).pending ≡ []
      no_fetch [] actor = refl
      no_fetch (pass ∷ passes) zero = refl
      no_fetch (pass ∷ passes) (suc actor) = no_fetch passes actor

      no_put : (passes : List (PassView M)) (actor : ℕ) → putting ring (traces_of passes actor).pending ≡ []
      no_put [] actor = refl
      no_put (pass ∷ passes) zero = refl
      no_put (pass ∷ passes) (suc actor) = no_put passes actor

module _ {M : Type 0} (key plan : Plan) (ruled : key ≡ plan) (words : List ℕ) (slots : List (Option M)) (id : ℕ) (view : View M) (final : Final (Seen (IsCable key) id view) words slots) (passes : List (PassView M))
    (is : view ≡ Desk key key.actors (map trace_at passes)) (all : length passes ≡ plan.actors) where
  abbrev last : State (Option M) (View M)
  last = final.0

  holds : IsCable plan last
  holds = subst (λ (q : Plan). IsCable q last) ruled final.1.0

  at : get_elem? last.views id ≡ some (Desk plan plan.actors (map trace_at passes))
  at = final.1.1 ∙ ap (λ (v : View M). some v) is ∙ ap (λ (q : Plan). some (Desk q q.actors (map trace_at passes))) ruled

  counter : (next : ℕ) → get_elem? words 0 ≡ some next → get_or last.words 0 0 ≡ next
  counter next e = ap (λ (l : List ℕ). get_or l 0 0) final.2 ∙ read_at words 0 0 next e

  pub closed_kept : (next : ℕ) → get_elem? words 0 ≡ some next → IsKept plan next (traces_of passes)
  closed_kept next e = subst (λ (n : ℕ). IsKept plan n (traces_of passes)) (counter next e) (kept_at plan last holds id passes all at)

  pub closed_next : (next : ℕ) → get_elem? words 0 ≡ some next → next < 2 ^ 61
  closed_next next e = subst (λ (n : ℕ). n < 2 ^ 61) (counter next e) (low_at plan last holds id passes all at)

  pub closed_left : (rows : List (List M)) → length rows ≡ length plan.rings → ((ring : ℕ) (row : List M) → get_elem? rows ring ≡ some row → IsFoundAt words slots plan.cells ring row) → AreLeft plan (traces_of passes) rows
  closed_left rows long found = record {
    all = long;
    each = λ ring spec row its there. row_at plan last holds id passes all at slots final.4 ring spec its row
        (subst (λ (l : List ℕ). IsFoundAt l slots plan.cells ring row) (sym final.2) (found ring row there));
  }
