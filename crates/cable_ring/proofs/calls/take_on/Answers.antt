use Rattle.std.proofs.Common.{rules, arith, refl, sym, ap, subst, ◌∙◌, ◌≡◌, ◌+◌, ◌*◌, ◌%◌, ◌<◌, ◌≤◌, ◌∷◌, [], List, ℕ, length, Option, Some, None}
use Rattle.atomic_table.specs.Table.{step}
use mathlib.Core.Option.{none, some}
use lib.ListN.{get_elem?}
use Rattle.cable_trace.specs.declared.trace.Action.TheVariants.{Sent, Refused, Looked, Taken}
use Rattle.cable_trace.specs.declared.trace.Pending.TheVariants.{Idle, Drew, Putting, Fetching, Took}
use Rattle.cable_trace.specs.Trace.{sent, shown, taken}
use Rattle.cable_ring.specs.Cells.{slot}
use Rattle.cable_ring.specs.Passes.{PassView, pass_at, trace_at, seated, noted}
use Rattle.cable_ring.specs.Planned.{plan_of}
use Rattle.cable_ring.specs.Steps.{Seated, At, trace_of, IsNewTicket}
use Rattle.cable_ring.proofs.AtSeat.{draw_for_take_at, see_cell_at, store_head_at}
use Rattle.cable_ring.proofs.AfterCall.{amid, acting_amid, drawn_count, moved_count, is_next, is_noted, is_resting, taker-lt}
use Rattle.cable_ring.proofs.Counting.{taken-le}
use Rattle.cable_ring.proofs.Chains.{has_cell, filled_cell, exchanged_amid, cell, is_moved, message_shown, fetched_amid, taken_amid, took_rest}
use Rattle.cable_ring.proofs.calls.take_on.Goals as goal

pub load-requires : goal.load-requires
load-requires g c = let same = c.requires.table in let wide = c.requires.seat.1.words in let below = taker-lt (pass_at c.args.place.now).plan.rings c.args.ring (pass_at c.args.place.now).actor c.requires.taker in
    let late = moved_count c.args.ring (pass_at c.args.place.now).events Idle refl in let is = c.requires.numbers.1 in let more = c.requires.some_shown in (
      same,
      omega (arith, ap (λ z. z.words) same),
      see_cell_at (plan_of c.args.top.now.key) c.args.top.now.table_id.slots c.args.place.now.id c.args.place.now.me (acting_amid (pass_at c.args.place.now) Idle) c.args.ring (16 * c.args.ring + 16) refl c.requires.seat.0 (refl, c.requires.taker, omega arith),
    )

pub emptied-requires : goal.emptied-requires
emptied-requires g c = let p : PassView g.row.M.Denot = pass_at c.args.place.now in let found = cell (pass_at c.args.place.now) c.args.ring (step c.args.top.now.table_id.slots (16 * c.args.ring + 16) 0 0 none) c.load.result c.args.place.now.me c.load.new.seat.me c.requires.seat.0 refl c.load.ensures.2 in
    let place : ℕ = slot p.plan.cells c.args.ring (length (taken c.args.ring (trace_at p))) in
    let same : c.slot_of-slot.result ≡ place = c.slot_of-slot.ensures ∙ (λ i. slot (c.requires.numbers.0 i) c.args.ring (c.requires.numbers.1 i)) in
    let has = fetched_amid (pass_at c.args.place.now) c.args.ring (step c.args.top.now.table_id.slots (16 * c.args.ring + 16) 0 0 none) c.load.result c.args.place.now.me c.load.new.seat.me c.requires.seat.0 refl c.load.ensures.2 in
    (c.load.ensures.0 ∙ c.requires.table, (Some found.0, has_cell c.load.new.seat.me.1 place c.slot_of-slot.result (Some found.0) (ap (λ m. m.1) has) same))

pub overflow_add-next : goal.overflow_add-next
overflow_add-next g c = let left = c.requires.seat.2 in let is = c.requires.numbers.1 in omega (arith, taken-le c.args.ring (pass_at c.args.place.now).events)

pub unreachable-requires : goal.unreachable-requires
unreachable-requires g c = let p : PassView g.row.M.Denot = pass_at c.args.place.now in let found = cell (pass_at c.args.place.now) c.args.ring (step c.args.top.now.table_id.slots (16 * c.args.ring + 16) 0 0 none) c.load.result c.args.place.now.me c.load.new.seat.me c.requires.seat.0 refl c.load.ensures.2 in
    let place : ℕ = slot p.plan.cells c.args.ring (length (taken c.args.ring (trace_at p))) in
    let same : c.slot_of-slot.result ≡ place = c.slot_of-slot.ensures ∙ (λ i. slot (c.requires.numbers.0 i) c.args.ring (c.requires.numbers.1 i)) in
    let has = fetched_amid (pass_at c.args.place.now) c.args.ring (step c.args.top.now.table_id.slots (16 * c.args.ring + 16) 0 0 none) c.load.result c.args.place.now.me c.load.new.seat.me c.requires.seat.0 refl c.load.ensures.2 in
    let got : c.emptied.result ≡ Some found.0 = filled_cell c.load.new.seat.me.1 place c.slot_of-slot.result c.emptied.result found.0 (ap (λ m. m.1) has) c.emptied.ensures.was in
    search rules

pub store-requires : goal.store-requires
store-requires g c = let at = c.requires.table in let wide = c.requires.seat.1.words in let below = taker-lt (pass_at c.args.place.now).plan.rings c.args.ring (pass_at c.args.place.now).actor c.requires.taker in let p : PassView g.row.M.Denot = pass_at c.args.place.now in let found = cell (pass_at c.args.place.now) c.args.ring (step c.args.top.now.table_id.slots (16 * c.args.ring + 16) 0 0 none) c.load.result c.args.place.now.me c.load.new.seat.me c.requires.seat.0 refl c.load.ensures.2 in
    let place : ℕ = slot p.plan.cells c.args.ring (length (taken c.args.ring (trace_at p))) in
    let same : c.slot_of-slot.result ≡ place = c.slot_of-slot.ensures ∙ (λ i. slot (c.requires.numbers.0 i) c.args.ring (c.requires.numbers.1 i)) in
    let has = fetched_amid (pass_at c.args.place.now) c.args.ring (step c.args.top.now.table_id.slots (16 * c.args.ring + 16) 0 0 none) c.load.result c.args.place.now.me c.load.new.seat.me c.requires.seat.0 refl c.load.ensures.2 in
    let got : c.emptied.result ≡ Some found.0 = filled_cell c.load.new.seat.me.1 place c.slot_of-slot.result c.emptied.result found.0 (ap (λ m. m.1) has) c.emptied.ensures.was in
    let emptied = exchanged_amid c.load.new.seat.me c.emptied.new.place.me place c.slot_of-slot.result (Some found.0) None (amid p (Fetching c.args.ring found.0) []) has same c.emptied.ensures.now in
    let late = moved_count c.args.ring p.events (Fetching c.args.ring found.0) refl in (
      c.emptied.ensures.same.0 ∙ c.load.ensures.0 ∙ at,
      omega (arith, ap (λ z. z.words) at),
      store_head_at (plan_of c.args.top.now.key) c.args.top.now.table_id.slots c.emptied.new.place.id c.emptied.new.place.me (acting_amid p (Fetching c.args.ring found.0)) c.args.ring (16 * c.args.ring + 16) found.0
          (c.args.count + 1) ((place, None) ∷ []) refl emptied
          (refl, c.requires.taker, ap (λ (k : ℕ). k + 1) (c.requires.numbers.1 ∙ sym late), (λ i. (slot p.plan.cells c.args.ring (sym late i), None) ∷ [])),
    )

pub fetch_add-ticket-requires : goal.fetch_add-ticket-requires
fetch_add-ticket-requires g c = let at = c.requires.table in let wide = c.requires.seat.1.words in let p : PassView g.row.M.Denot = pass_at c.args.place.now in let found = cell (pass_at c.args.place.now) c.args.ring (step c.args.top.now.table_id.slots (16 * c.args.ring + 16) 0 0 none) c.load.result c.args.place.now.me c.load.new.seat.me c.requires.seat.0 refl c.load.ensures.2 in
    let place : ℕ = slot p.plan.cells c.args.ring (length (taken c.args.ring (trace_at p))) in
    let same : c.slot_of-slot.result ≡ place = c.slot_of-slot.ensures ∙ (λ i. slot (c.requires.numbers.0 i) c.args.ring (c.requires.numbers.1 i)) in
    let has = fetched_amid (pass_at c.args.place.now) c.args.ring (step c.args.top.now.table_id.slots (16 * c.args.ring + 16) 0 0 none) c.load.result c.args.place.now.me c.load.new.seat.me c.requires.seat.0 refl c.load.ensures.2 in
    let got : c.emptied.result ≡ Some found.0 = filled_cell c.load.new.seat.me.1 place c.slot_of-slot.result c.emptied.result found.0 (ap (λ m. m.1) has) c.emptied.ensures.was in
    let emptied = exchanged_amid c.load.new.seat.me c.emptied.new.place.me place c.slot_of-slot.result (Some found.0) None (amid p (Fetching c.args.ring found.0) []) has same c.emptied.ensures.now in
    let late = moved_count c.args.ring p.events (Fetching c.args.ring found.0) refl in
    let third = taken_amid p c.args.ring place (c.args.count + 1) found.0 c.emptied.new.place.me c.store.new.seat.me (step c.args.top.now.table_id.slots (16 * c.args.ring + 16) (c.args.count + 1) 0 none) emptied c.store.ensures.2 in (
      c.store.ensures.0 ∙ c.emptied.ensures.same.0 ∙ c.load.ensures.0 ∙ at,
      omega (arith, ap (λ z. z.words) at),
      draw_for_take_at (plan_of c.args.top.now.key) c.args.top.now.table_id.slots c.store.new.seat.id c.store.new.seat.me (acting_amid p (Took c.args.ring found.0)) c.args.ring found.0 [] third
          (refl, drawn_count p c.requires.seat.2, c.requires.taker),
    )

pub returns-clause-seat : goal.returns-clause-seat
returns-clause-seat g c = let p : PassView g.row.M.Denot = pass_at c.args.place.now in let found = cell (pass_at c.args.place.now) c.args.ring (step c.args.top.now.table_id.slots (16 * c.args.ring + 16) 0 0 none) c.load.result c.args.place.now.me c.load.new.seat.me c.requires.seat.0 refl c.load.ensures.2 in
    let place : ℕ = slot p.plan.cells c.args.ring (length (taken c.args.ring (trace_at p))) in
    let same : c.slot_of-slot.result ≡ place = c.slot_of-slot.ensures ∙ (λ i. slot (c.requires.numbers.0 i) c.args.ring (c.requires.numbers.1 i)) in
    let has = fetched_amid (pass_at c.args.place.now) c.args.ring (step c.args.top.now.table_id.slots (16 * c.args.ring + 16) 0 0 none) c.load.result c.args.place.now.me c.load.new.seat.me c.requires.seat.0 refl c.load.ensures.2 in
    let got : c.emptied.result ≡ Some found.0 = filled_cell c.load.new.seat.me.1 place c.slot_of-slot.result c.emptied.result found.0 (ap (λ m. m.1) has) c.emptied.ensures.was in
    let emptied = exchanged_amid c.load.new.seat.me c.emptied.new.place.me place c.slot_of-slot.result (Some found.0) None (amid p (Fetching c.args.ring found.0) []) has same c.emptied.ensures.now in
    let late = moved_count c.args.ring p.events (Fetching c.args.ring found.0) refl in
    let third = taken_amid p c.args.ring place (c.args.count + 1) found.0 c.emptied.new.place.me c.store.new.seat.me (step c.args.top.now.table_id.slots (16 * c.args.ring + 16) (c.args.count + 1) 0 none) emptied c.store.ensures.2 in
    let last = step c.args.top.now.table_id.slots 0 1 0 none in
    let rest-is = took_rest p c.args.ring c.fetch_add-ticket.result found.0 c.store.new.seat.me c.fetch_add-ticket.new.seat.me last third c.fetch_add-ticket.ensures.2 in
    let table = c.fetch_add-ticket.ensures.0 ∙ c.store.ensures.0 ∙ c.emptied.ensures.same.0 ∙ c.load.ensures.0 in
    is_resting c.args.place.now c.fetch_add-ticket.new.seat c.fetch_add-ticket.result (Taken c.args.ring found.0) table rest-is

pub returns-clause-next : goal.returns-clause-next
returns-clause-next g c = let p : PassView g.row.M.Denot = pass_at c.args.place.now in let found = cell (pass_at c.args.place.now) c.args.ring (step c.args.top.now.table_id.slots (16 * c.args.ring + 16) 0 0 none) c.load.result c.args.place.now.me c.load.new.seat.me c.requires.seat.0 refl c.load.ensures.2 in
    let place : ℕ = slot p.plan.cells c.args.ring (length (taken c.args.ring (trace_at p))) in
    let same : c.slot_of-slot.result ≡ place = c.slot_of-slot.ensures ∙ (λ i. slot (c.requires.numbers.0 i) c.args.ring (c.requires.numbers.1 i)) in
    let has = fetched_amid (pass_at c.args.place.now) c.args.ring (step c.args.top.now.table_id.slots (16 * c.args.ring + 16) 0 0 none) c.load.result c.args.place.now.me c.load.new.seat.me c.requires.seat.0 refl c.load.ensures.2 in
    let got : c.emptied.result ≡ Some found.0 = filled_cell c.load.new.seat.me.1 place c.slot_of-slot.result c.emptied.result found.0 (ap (λ m. m.1) has) c.emptied.ensures.was in
    let emptied = exchanged_amid c.load.new.seat.me c.emptied.new.place.me place c.slot_of-slot.result (Some found.0) None (amid p (Fetching c.args.ring found.0) []) has same c.emptied.ensures.now in
    let late = moved_count c.args.ring p.events (Fetching c.args.ring found.0) refl in
    let third = taken_amid p c.args.ring place (c.args.count + 1) found.0 c.emptied.new.place.me c.store.new.seat.me (step c.args.top.now.table_id.slots (16 * c.args.ring + 16) (c.args.count + 1) 0 none) emptied c.store.ensures.2 in
    let did = c.fetch_add-ticket.ensures.2 c.args.ring found.0 (ap (λ (m : Seated g.row.M.Denot). (trace_of m).pending) third) in
    subst (λ (m : Seated g.row.M.Denot). IsNewTicket c.fetch_add-ticket.result (trace_of m)) third did.0

pub returns-clause-message : goal.returns-clause-message
returns-clause-message g c = let p : PassView g.row.M.Denot = pass_at c.args.place.now in let found = cell (pass_at c.args.place.now) c.args.ring (step c.args.top.now.table_id.slots (16 * c.args.ring + 16) 0 0 none) c.load.result c.args.place.now.me c.load.new.seat.me c.requires.seat.0 refl c.load.ensures.2 in
    let place : ℕ = slot p.plan.cells c.args.ring (length (taken c.args.ring (trace_at p))) in
    let same : c.slot_of-slot.result ≡ place = c.slot_of-slot.ensures ∙ (λ i. slot (c.requires.numbers.0 i) c.args.ring (c.requires.numbers.1 i)) in
    let has = fetched_amid (pass_at c.args.place.now) c.args.ring (step c.args.top.now.table_id.slots (16 * c.args.ring + 16) 0 0 none) c.load.result c.args.place.now.me c.load.new.seat.me c.requires.seat.0 refl c.load.ensures.2 in
    let got : c.emptied.result ≡ Some found.0 = filled_cell c.load.new.seat.me.1 place c.slot_of-slot.result c.emptied.result found.0 (ap (λ m. m.1) has) c.emptied.ensures.was in
    let emptied = exchanged_amid c.load.new.seat.me c.emptied.new.place.me place c.slot_of-slot.result (Some found.0) None (amid p (Fetching c.args.ring found.0) []) has same c.emptied.ensures.now in
    let is : found.0 ≡ c.in-Some.message = cc (got, c.in-Some.is) in
    ap (λ (k : ℕ). get_elem? (shown c.args.ring (trace_at p)) k) c.requires.numbers.1 ∙ message_shown (pass_at c.args.place.now) c.args.ring (step c.args.top.now.table_id.slots (16 * c.args.ring + 16) 0 0 none) c.load.result c.args.place.now.me c.load.new.seat.me c.requires.seat.0 refl c.load.ensures.2 ∙ ap some is

pub returns-clause-noted : goal.returns-clause-noted
returns-clause-noted g c = let p : PassView g.row.M.Denot = pass_at c.args.place.now in let found = cell (pass_at c.args.place.now) c.args.ring (step c.args.top.now.table_id.slots (16 * c.args.ring + 16) 0 0 none) c.load.result c.args.place.now.me c.load.new.seat.me c.requires.seat.0 refl c.load.ensures.2 in
    let place : ℕ = slot p.plan.cells c.args.ring (length (taken c.args.ring (trace_at p))) in
    let same : c.slot_of-slot.result ≡ place = c.slot_of-slot.ensures ∙ (λ i. slot (c.requires.numbers.0 i) c.args.ring (c.requires.numbers.1 i)) in
    let has = fetched_amid (pass_at c.args.place.now) c.args.ring (step c.args.top.now.table_id.slots (16 * c.args.ring + 16) 0 0 none) c.load.result c.args.place.now.me c.load.new.seat.me c.requires.seat.0 refl c.load.ensures.2 in
    let got : c.emptied.result ≡ Some found.0 = filled_cell c.load.new.seat.me.1 place c.slot_of-slot.result c.emptied.result found.0 (ap (λ m. m.1) has) c.emptied.ensures.was in
    let emptied = exchanged_amid c.load.new.seat.me c.emptied.new.place.me place c.slot_of-slot.result (Some found.0) None (amid p (Fetching c.args.ring found.0) []) has same c.emptied.ensures.now in
    let late = moved_count c.args.ring p.events (Fetching c.args.ring found.0) refl in
    let third = taken_amid p c.args.ring place (c.args.count + 1) found.0 c.emptied.new.place.me c.store.new.seat.me (step c.args.top.now.table_id.slots (16 * c.args.ring + 16) (c.args.count + 1) 0 none) emptied c.store.ensures.2 in
    let last = step c.args.top.now.table_id.slots 0 1 0 none in
    let rest-is = took_rest p c.args.ring c.fetch_add-ticket.result found.0 c.store.new.seat.me c.fetch_add-ticket.new.seat.me last third c.fetch_add-ticket.ensures.2 in
    let table = c.fetch_add-ticket.ensures.0 ∙ c.store.ensures.0 ∙ c.emptied.ensures.same.0 ∙ c.load.ensures.0 in
    let is : found.0 ≡ c.in-Some.message = cc (got, c.in-Some.is) in
    is_noted c.args.place.now c.fetch_add-ticket.new.seat c.fetch_add-ticket.result (Taken c.args.ring found.0) table rest-is
    ∙ (λ i. noted p c.fetch_add-ticket.result (Taken c.args.ring (is i)))
