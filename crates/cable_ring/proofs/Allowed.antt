-- Each step is allowed by the rule: the actor that takes it has a new trace, and all holds again.
use Rattle.std.proofs.Common.{◌≡◌, ◌≢◌, ℕ, zero, suc, ◌+◌, ◌*◌, ◌%◌, ◌^◌, ◌<◌, ◌≤◌, List, [], ◌∷◌, ◌++◌, length, get_or, set, Option, Some, None, refl, sym, ap, subst, ◌∙◌, arith, ne_eqb, mod-eq_of_lt, length-set, get_or-set_other, get_or-set_same}
use mathlib.Core.Option as maybe
use mathlib.Core.Option.{some, none, some-injective, some-ne-none}
use native.Mathlib.Decide.{ℕ_discrete, dec_le}
use lib.ListN.{get_elem?}
use lib.Seq.{set-get_or}
use Rattle.atomic_table.specs.Table.{State, Me, step, Act, keeps, takes, gives, Valid, carried_after, stepped, Allows}
use Rattle.cable_trace.specs.declared.trace.Action.{Action}
use Rattle.cable_trace.specs.declared.trace.Action.TheVariants.{Marked, Sent, Refused, Looked, Taken, Stored, Loaded}
use Rattle.cable_trace.specs.declared.trace.Pending.{Pending}
use Rattle.cable_trace.specs.declared.trace.Pending.TheVariants.{Idle, Drew, Putting, Fetching, Took}
use Rattle.cable_trace.specs.declared.trace.Trace.{Trace}
use Rattle.cable_trace.specs.Trace.{pending_ticket, taken_before_ticket, drawn, sent, shown, moved}
use Rattle.cable_trace.specs.Step.{with_pending, with_event}
use Rattle.cable_trace.proofs.Tells.{drawn_same, drawn_more, drawn_first}
use Rattle.cable_ring.specs.declared.view.RingSpec.{RingSpec}
use Rattle.cable_ring.specs.declared.view.Plan.{Plan}
use Rattle.cable_ring.specs.declared.view.Acting.{Acting}
use Rattle.cable_ring.specs.declared.view.View.{View}
use Rattle.cable_ring.specs.declared.view.View.TheVariants.{Actor}
use Rattle.cable_ring.specs.Cells.{slot, putting, fetching}
use Rattle.cable_ring.specs.Rule.{head_word, tail_word, IsRing, IsCable}
use Rattle.cable_ring.specs.Steps.{Seated, At, drew, marked, took, saw_head, stored_tail, saw_tail, saw_cell, stored_head}
use Rattle.cable_ring.specs.Passes.{sender_at, taker_at}
use Rattle.cable_ring.specs.Ends.{DidOwn}
use Rattle.cable_ring.proofs.Put.{put}
use Rattle.cable_ring.proofs.Owned.{own_event}
use Rattle.cable_ring.proofs.TicketSteps.{above_events}
use Rattle.cable_ring.proofs.Aside.{IsAside, IsOffBeat, other_ring, event_aside, pending_aside, event_off_beat, pending_off_beat, ring_takes}
use Rattle.cable_ring.proofs.CableSteps.{Is, known-lt, counter-low, all-below, all_above, draw_step, ring_beside}
use Rattle.cable_trace.proofs.Above.{above_sends, above_takes}

-- the ends of a ring
pub sender_is : (rings : List RingSpec) (ring a : ℕ) (spec : RingSpec) → sender_at rings ring ≡ suc a → get_elem? rings ring ≡ some spec → spec.from ≡ a
sender_is [] ring a spec e at = absurd (some-ne-none spec (sym at))
sender_is (x ∷ rings) zero a spec e at = let is : x ≡ spec = some-injective x spec at in let f : x.from ≡ spec.from = ap (λ (r : RingSpec). r.from) is in omega arith
sender_is (x ∷ rings) (suc ring) a spec e at = sender_is rings ring a spec e at

pub taker_is : (rings : List RingSpec) (ring a : ℕ) (spec : RingSpec) → taker_at rings ring ≡ suc a → get_elem? rings ring ≡ some spec → spec.to ≡ a
taker_is [] ring a spec e at = absurd (some-ne-none spec (sym at))
taker_is (x ∷ rings) zero a spec e at = let is : x ≡ spec = some-injective x spec at in let f : x.to ≡ spec.to = ap (λ (r : RingSpec). r.to) is in omega arith
taker_is (x ∷ rings) (suc ring) a spec e at = taker_is rings ring a spec e at

pub sender_there : (rings : List RingSpec) (ring a : ℕ) → sender_at rings ring ≡ suc a → (spec : RingSpec) × (get_elem? rings ring ≡ some spec)
sender_there [] ring a e = absurd (omega arith)
sender_there (x ∷ rings) zero a e = (x, refl)
sender_there (x ∷ rings) (suc ring) a e = sender_there rings ring a e

pub taker_there : (rings : List RingSpec) (ring a : ℕ) → taker_at rings ring ≡ suc a → (spec : RingSpec) × (get_elem? rings ring ≡ some spec)
taker_there [] ring a e = absurd (omega arith)
taker_there (x ∷ rings) zero a e = (x, refl)
taker_there (x ∷ rings) (suc ring) a e = taker_there rings ring a e

module _ {M : Type 0} (plan : Plan) where
  -- the actor as the rule has it
  abbrev pub as_ruled : (s : State (Option M) (View M)) → IsCable plan s → ℕ → Acting M
  as_ruled s h a = record { actor = a; plan = plan; trace = h.traces a }

  -- what the rule says of a seat's actor holds of what the seat knows
  pub by_rule : (slots id word : ℕ) (f : ℕ → ℕ) (then : Seated M → ℕ → Seated M → Type 0) (Pre : Acting M → Type 0) (acting : Acting M) (c : List (ℕ × Option M)) → Pre acting
      → ((s : State (Option M) (View M)) (h : IsCable plan s) → length s.homes ≡ slots → get_elem? s.views id ≡ some (Actor (as_ruled s h acting.actor)) → Pre (as_ruled s h acting.actor)
      → (w : View M) × (act : Act (Option M)) × Valid s.homes c act × IsCable plan (stepped s word (f (get_or s.words word 0)) id c w act)
      × then (Actor (as_ruled s h acting.actor), c) (get_or s.words word 0) (w, carried_after c act))
      → Allows (IsCable plan) slots id (Actor acting, c) word f (then (Actor acting, c))
  by_rule slots id word f then Pre acting c pre each = λ s h deep at below.
      let known = h.seated.knows id (Actor acting) at in
      let same : acting ≡ as_ruled s h acting.actor = λ i. record { actor = acting.actor; plan = known.2 i; trace = known.3 i } in
      subst (λ (x : Acting M). (w : View M) × (act : Act (Option M)) × Valid s.homes c act × IsCable plan (stepped s word (f (get_or s.words word 0)) id c w act)
      × then (Actor x, c) (get_or s.words word 0) (w, carried_after c act)) (sym same)
      (each s h deep (at ∙ ap (λ (x : Acting M). some (Actor x)) same) (subst Pre same pre))

  -- the words after a draw
  module _ (s : State (Option M) (View M)) (h : IsCable plan s) (id a : ℕ) (at : get_elem? s.views id ≡ some (Actor (as_ruled s h a))) where
    abbrev next : ℕ
    next = get_or s.words 0 0

    abbrev drawn_words : List ℕ
    drawn_words = set s.words 0 ((next + 1) % 18446744073709551616)

    low : next < 2 ^ 61 + 1
    low = counter-low plan s h id a at

    some_words : 0 < length s.words
    some_words = omega (arith, h.words)

    wide : length drawn_words ≡ length s.words
    wide = length-set s.words 0 ((next + 1) % 18446744073709551616)

    counter : get_or drawn_words 0 0 ≡ next + 1
    counter = get_or-set_same s.words 0 ((next + 1) % 18446744073709551616) 0 some_words ∙ mod-eq_of_lt (omega (arith, low))

    beat_word : get_or drawn_words 8 0 ≡ get_or s.words 8 0
    beat_word = get_or-set_other s.words 0 8 ((next + 1) % 18446744073709551616) 0 (λ e. omega arith)

    ends : (ring : ℕ) → (get_or drawn_words (head_word ring) 0 ≡ get_or s.words (head_word ring) 0) × (get_or drawn_words (tail_word ring) 0 ≡ get_or s.words (tail_word ring) 0)
    ends ring = (get_or-set_other s.words 0 (head_word ring) ((next + 1) % 18446744073709551616) 0 (λ e. omega arith), get_or-set_other s.words 0 (tail_word ring) ((next + 1) % 18446744073709551616) 0 (λ e. omega arith))

    -- a draw that does nothing on any ring
    plain_draw : (new : Trace M) → DidOwn plan.rings a new → drawn new ≡ drawn (h.traces a) ++ next ∷ [] → length (drawn (h.traces a)) < 2 ^ 56 → ((ring : ℕ) → IsAside ring (h.traces a) new)
        → IsOffBeat (h.traces a) new → IsCable plan record { words = drawn_words; homes = s.homes; views = set s.views id (Is plan s h id a new) }
    plain_draw new owns more few aside off = draw_step plan s h id a at new owns drawn_words more few wide counter beat_word ends off
        (λ ring spec is. ring_beside plan s h id a at new owns drawn_words more few wide counter beat_word ends off ring spec is (aside ring))

  abbrev pub IsIdle : Acting M → Type 0
  IsIdle x = (x.trace.pending ≡ Idle) × (length (drawn x.trace) < 2 ^ 56)

  -- a ticket for what comes next
  pub may_draw : (slots id : ℕ) (acting : Acting M) (c : List (ℕ × Option M)) → IsIdle acting
      → Allows (IsCable plan) slots id (Actor acting, c) 0 (λ n. (n + 1) % 18446744073709551616) (drew (step slots 0 1 0 none) (Actor acting, c))
  may_draw slots id acting c pre = by_rule slots id 0 (λ n. (n + 1) % 18446744073709551616) (drew (step slots 0 1 0 none)) IsIdle acting c pre
      (λ s h deep at idle.
      let a : ℕ = acting.actor in let old : Trace M = h.traces a in let n : ℕ = get_or s.words 0 0 in
      let p = idle.0 in (
        Is plan s h id a (with_pending old (Drew n)),
        keeps,
        tt,
        plain_draw s h id a at (with_pending old (Drew n)) (h.own a) (drawn_first old n (ap pending_ticket p)) idle.1
            (λ ring. pending_aside ring old (Drew n) (sym (ap (taken_before_ticket ring) p)) (sym (ap (putting ring) p)) (sym (ap (fetching ring) p))) (pending_off_beat old (Drew n)),
        (all-below plan s h id a at a, refl),
      ))

  -- a ticket for something away from the rings
  pub may_mark : (slots id : ℕ) (acting : Acting M) (c : List (ℕ × Option M)) → IsIdle acting
      → Allows (IsCable plan) slots id (Actor acting, c) 0 (λ n. (n + 1) % 18446744073709551616) (marked (step slots 0 1 0 none) (Actor acting, c))
  may_mark slots id acting c pre = by_rule slots id 0 (λ n. (n + 1) % 18446744073709551616) (marked (step slots 0 1 0 none)) IsIdle acting c pre
      (λ s h deep at idle.
      let a : ℕ = acting.actor in let old : Trace M = h.traces a in let n : ℕ = get_or s.words 0 0 in
      let p = idle.0 in (
        Is plan s h id a (with_event old n Marked),
        keeps,
        tt,
        plain_draw s h id a at (with_event old n Marked) (own_event plan.rings a n old Marked (h.own a) tt) (drawn_more old n Marked (ap pending_ticket p)) idle.1
            (λ ring. event_aside ring n old Marked refl refl (ap (taken_before_ticket ring) p) (ap (putting ring) p) (ap (fetching ring) p)) (event_off_beat n old Marked refl refl),
        (all-below plan s h id a at a, refl),
      ))

  abbrev pub HasTaken : ℕ → M → Acting M → Type 0
  HasTaken ring message x = (x.trace.pending ≡ Took ring message) × (length (drawn x.trace) < 2 ^ 56) × (taker_at x.plan.rings ring ≡ suc x.actor)

  took-same : (ring r : ℕ) (message m : M) → Took ring message ≡ Took r m → (ring ≡ r) × (message ≡ m)
  took-same ring r message m e = let one : ring ≡ r = cc in let two : message ≡ m = cc in (one, two)

  -- a ticket for a take
  pub may_draw_for_take : (slots id ring : ℕ) (message : M) (acting : Acting M) (c : List (ℕ × Option M)) → HasTaken ring message acting
      → Allows (IsCable plan) slots id (Actor acting, c) 0 (λ n. (n + 1) % 18446744073709551616) (took (step slots 0 1 0 none) (Actor acting, c))
  may_draw_for_take slots id ring message acting c pre = by_rule slots id 0 (λ n. (n + 1) % 18446744073709551616) (took (step slots 0 1 0 none)) (HasTaken ring message) acting c pre
      (λ s h deep at has.
      let a : ℕ = acting.actor in let old : Trace M = h.traces a in let n : ℕ = get_or s.words 0 0 in
      let new : Trace M = with_event old n (Taken ring message) in
      let p = has.0 in
      let more : drawn new ≡ drawn old ++ n ∷ [] = drawn_more old n (Taken ring message) (ap pending_ticket p) in
      let off = event_off_beat n old (Taken ring message) refl refl in (
        Is plan s h id a new,
        keeps,
        tt,
        draw_step plan s h id a at new (own_event plan.rings a n old (Taken ring message) (h.own a) has.2) (drawn_words s h id a at) more has.1 (wide s h id a at) (counter s h id a at) (beat_word s h id a at) (ends s h id a at) off
            (λ q spec is. at_ring s h id a at q spec is has more off (ℕ_discrete ring q)),
        (λ r m e. let same = took-same ring r message m (sym p ∙ e) in
            (all-below plan s h id a at a, λ i. (Is plan s h id a (with_event old n (Taken (same.0 i) (same.1 i))), c))),
      ))
    where
      at_ring : (s : State (Option M) (View M)) (h : IsCable plan s) (id a : ℕ) (at : get_elem? s.views id ≡ some (Actor (as_ruled s h a))) (q : ℕ) (spec : RingSpec) → get_elem? plan.rings q ≡ some spec
          → HasTaken ring message (as_ruled s h a) → drawn (with_event (h.traces a) (get_or s.words 0 0) (Taken ring message)) ≡ drawn (h.traces a) ++ get_or s.words 0 0 ∷ []
          → IsOffBeat (h.traces a) (with_event (h.traces a) (get_or s.words 0 0) (Taken ring message)) → Dec (ring ≡ q)
          → IsRing plan.cells q (get_or s.words (head_word q) 0) (get_or s.words (tail_word q) 0) s.homes
          (put h.traces a (with_event (h.traces a) (get_or s.words 0 0) (Taken ring message)) spec.from) (put h.traces a (with_event (h.traces a) (get_or s.words 0 0) (Taken ring message)) spec.to)
      at_ring s h id a at q spec is has more off (yes e) =
          let n : ℕ = get_or s.words 0 0 in
          let is' : get_elem? plan.rings ring ≡ some spec = ap (get_elem? plan.rings) e ∙ is in
          let above = above_events n (h.traces a) (all-below plan s h id a at a) in
          subst (λ (k : ℕ). IsRing plan.cells k (get_or s.words (head_word k) 0) (get_or s.words (tail_word k) 0) s.homes
          (put h.traces a (with_event (h.traces a) n (Taken ring message)) spec.from) (put h.traces a (with_event (h.traces a) n (Taken ring message)) spec.to)) e
          (ring_takes plan.cells ring (get_or s.words (head_word ring) 0) (get_or s.words (tail_word ring) 0) s.homes h.traces a spec.from spec.to n message
          (taker_is plan.rings ring a spec has.2 is') has.0 above more (
            h.rings ring spec is',
            above_sends ring n (h.traces spec.from) (above_events n (h.traces spec.from) (all-below plan s h id a at spec.from)),
            above_takes ring n (h.traces spec.to) (above_events n (h.traces spec.to) (all-below plan s h id a at spec.to)),
          ))
      at_ring s h id a at q spec is has more off (no ne) =
          let n : ℕ = get_or s.words 0 0 in
          ring_beside plan s h id a at (with_event (h.traces a) n (Taken ring message)) (own_event plan.rings a n (h.traces a) (Taken ring message) (h.own a) has.2) (drawn_words s h id a at) more has.1 (wide s h id a at) (counter s h id a at) (beat_word s h id a at) (ends s h id a at) off q spec is
          (event_aside q n (h.traces a) (Taken ring message) refl (ne_eqb ring q ne)
          (ap (taken_before_ticket q) has.0 ∙ other_ring ring q (message ∷ []) [] ne) (ap (putting q) has.0) (ap (fetching q) has.0))
