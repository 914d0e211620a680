use Rattle.std.proofs.Common.{rules, arith, refl, sym, ap, subst, ◌∙◌, ◌≡◌, ◌+◌, ◌*◌, ◌%◌, ◌<◌, ◌≤◌, ◌∷◌, [], List, ℕ, length, Option, Some, None}
use Rattle.atomic_table.specs.Table.{step}
use mathlib.Core.Option.{none}
use Rattle.cable_trace.specs.declared.trace.Action.TheVariants.{Sent, Refused, Looked, Taken}
use Rattle.cable_trace.specs.declared.trace.Pending.TheVariants.{Idle, Drew, Putting, Fetching, Took}
use Rattle.cable_trace.specs.Trace.{sent, shown, taken}
use Rattle.cable_ring.specs.Cells.{slot}
use Rattle.cable_ring.specs.Passes.{PassView, pass_at, trace_at, seated, noted}
use Rattle.cable_ring.specs.Planned.{plan_of}
use Rattle.cable_ring.specs.Steps.{Seated}
use Rattle.cable_ring.proofs.AtSeat.{draw_at, see_head_at, store_tail_at}
use Rattle.cable_ring.proofs.AfterCall.{amid, acting_amid, drawn_count, is_next, is_noted, is_resting, drew_amid, sender-lt}
use Rattle.cable_ring.proofs.Counting.{sent-le}
use Rattle.cable_ring.proofs.Chains.{has_cell, exchanged_amid, seen-le, found_full, full_count, found_room, sent_amid}
use Rattle.cable_ring.proofs.calls.send_on.Goals as goal

pub fetch_add-ticket-requires : goal.fetch_add-ticket-requires
fetch_add-ticket-requires g c = let same = c.requires.table in let wide = c.requires.seat.1.words in (
  same,
  omega (arith, ap (λ z. z.words) same),
  draw_at (plan_of c.args.top.now.key) c.args.top.now.table_id.slots c.args.place.now.id c.args.place.now.me (acting_amid (pass_at c.args.place.now) Idle) c.requires.seat.0
      (refl, drawn_count (pass_at c.args.place.now) c.requires.seat.2),
)

pub load-seen-requires : goal.load-seen-requires
load-seen-requires g c = let same = c.requires.table in let wide = c.requires.seat.1.words in let below = sender-lt (pass_at c.args.place.now).plan.rings c.args.ring (pass_at c.args.place.now).actor c.requires.sender in (
  c.fetch_add-ticket.ensures.0 ∙ same,
  omega (arith, ap (λ z. z.words) same),
  see_head_at (plan_of c.args.top.now.key) c.args.top.now.table_id.slots c.fetch_add-ticket.new.seat.id c.fetch_add-ticket.new.seat.me (acting_amid (pass_at c.args.place.now) (Drew c.fetch_add-ticket.result)) c.args.ring (16 * c.args.ring + 16) c.fetch_add-ticket.result refl
      (drew_amid (pass_at c.args.place.now) c.args.ring c.fetch_add-ticket.result (step c.args.top.now.table_id.slots 0 1 0 none) (step c.args.top.now.table_id.slots (16 * c.args.ring + 16) 0 0 none) c.args.place.now.me c.fetch_add-ticket.new.seat.me c.fetch_add-ticket.new.seat.me c.requires.seat.0 c.fetch_add-ticket.ensures.2) (refl, c.requires.sender),
)

pub overflow_sub-waiting : goal.overflow_sub-waiting
overflow_sub-waiting g c = seen-le (pass_at c.args.place.now) c.args.ring c.fetch_add-ticket.result (step c.args.top.now.table_id.slots 0 1 0 none) (step c.args.top.now.table_id.slots (16 * c.args.ring + 16) 0 0 none) c.args.place.now.me c.fetch_add-ticket.new.seat.me c.load-seen.new.seat.me c.requires.seat.0 c.fetch_add-ticket.ensures.2 c.load-seen.result c.args.count c.args.cells refl c.load-seen.ensures.2 c.requires.numbers.0 c.requires.numbers.1

pub returns-then-waiting-cells-clause-seat : goal.returns-then-waiting-cells-clause-seat
returns-then-waiting-cells-clause-seat g c = is_resting c.args.place.now c.load-seen.new.seat c.fetch_add-ticket.result (Refused c.args.ring c.load-seen.result) (c.load-seen.ensures.0 ∙ c.fetch_add-ticket.ensures.0)
    (found_full (pass_at c.args.place.now) c.args.ring c.fetch_add-ticket.result (step c.args.top.now.table_id.slots 0 1 0 none) (step c.args.top.now.table_id.slots (16 * c.args.ring + 16) 0 0 none) c.args.place.now.me c.fetch_add-ticket.new.seat.me c.load-seen.new.seat.me c.requires.seat.0 c.fetch_add-ticket.ensures.2 c.load-seen.result c.args.count c.args.cells refl c.load-seen.ensures.2 c.requires.numbers.0 c.requires.numbers.1 c.if-waiting-cells.true)

pub returns-then-waiting-cells-clause-refused : goal.returns-then-waiting-cells-clause-refused
returns-then-waiting-cells-clause-refused g c = (
  is_next c.args.place.now c.fetch_add-ticket.result c.requires.seat.0 c.fetch_add-ticket.ensures.2.0,
  refl,
  full_count (pass_at c.args.place.now) c.args.ring c.fetch_add-ticket.result (step c.args.top.now.table_id.slots 0 1 0 none) (step c.args.top.now.table_id.slots (16 * c.args.ring + 16) 0 0 none) c.args.place.now.me c.fetch_add-ticket.new.seat.me c.load-seen.new.seat.me c.requires.seat.0 c.fetch_add-ticket.ensures.2 c.load-seen.result c.args.count c.args.cells refl c.load-seen.ensures.2 c.requires.numbers.0 c.requires.numbers.1 c.if-waiting-cells.true,
  is_noted c.args.place.now c.load-seen.new.seat c.fetch_add-ticket.result (Refused c.args.ring c.load-seen.result) (c.load-seen.ensures.0 ∙ c.fetch_add-ticket.ensures.0) (found_full (pass_at c.args.place.now) c.args.ring c.fetch_add-ticket.result (step c.args.top.now.table_id.slots 0 1 0 none) (step c.args.top.now.table_id.slots (16 * c.args.ring + 16) 0 0 none) c.args.place.now.me c.fetch_add-ticket.new.seat.me c.load-seen.new.seat.me c.requires.seat.0 c.fetch_add-ticket.ensures.2 c.load-seen.result c.args.count c.args.cells refl c.load-seen.ensures.2 c.requires.numbers.0 c.requires.numbers.1 c.if-waiting-cells.true),
)

pub exchange-requires : goal.exchange-requires
exchange-requires g c = let p : PassView g.row.M.Denot = pass_at c.args.place.now in
    let room = found_room (pass_at c.args.place.now) c.args.ring c.fetch_add-ticket.result (step c.args.top.now.table_id.slots 0 1 0 none) (step c.args.top.now.table_id.slots (16 * c.args.ring + 16) 0 0 none) c.args.place.now.me c.fetch_add-ticket.new.seat.me c.load-seen.new.seat.me c.requires.seat.0 c.fetch_add-ticket.ensures.2 c.load-seen.result c.args.count c.args.cells refl c.load-seen.ensures.2 c.requires.numbers.0 c.requires.numbers.1 c.if-waiting-cells.false in
    let place : ℕ = slot p.plan.cells c.args.ring (length (sent c.args.ring (trace_at p))) in
    let same : c.slot_of-slot.result ≡ place = c.slot_of-slot.ensures ∙ (λ i. slot (c.requires.numbers.0 i) c.args.ring (c.requires.numbers.1 i)) in
    (c.load-seen.ensures.0 ∙ c.fetch_add-ticket.ensures.0 ∙ c.requires.table, (None, has_cell c.load-seen.new.seat.me.1 place c.slot_of-slot.result None (ap (λ m. m.1) room) same))

pub overflow_add-next : goal.overflow_add-next
overflow_add-next g c = let left = c.requires.seat.2 in let is = c.requires.numbers.1 in omega (arith, sent-le c.args.ring (pass_at c.args.place.now).events)

pub store-requires : goal.store-requires
store-requires g c = let at = c.requires.table in let wide = c.requires.seat.1.words in let below = sender-lt (pass_at c.args.place.now).plan.rings c.args.ring (pass_at c.args.place.now).actor c.requires.sender in let p : PassView g.row.M.Denot = pass_at c.args.place.now in
    let room = found_room (pass_at c.args.place.now) c.args.ring c.fetch_add-ticket.result (step c.args.top.now.table_id.slots 0 1 0 none) (step c.args.top.now.table_id.slots (16 * c.args.ring + 16) 0 0 none) c.args.place.now.me c.fetch_add-ticket.new.seat.me c.load-seen.new.seat.me c.requires.seat.0 c.fetch_add-ticket.ensures.2 c.load-seen.result c.args.count c.args.cells refl c.load-seen.ensures.2 c.requires.numbers.0 c.requires.numbers.1 c.if-waiting-cells.false in
    let place : ℕ = slot p.plan.cells c.args.ring (length (sent c.args.ring (trace_at p))) in
    let same : c.slot_of-slot.result ≡ place = c.slot_of-slot.ensures ∙ (λ i. slot (c.requires.numbers.0 i) c.args.ring (c.requires.numbers.1 i)) in
    let has = exchanged_amid c.load-seen.new.seat.me c.exchange.new.seat.me place c.slot_of-slot.result None (Some c.args.message) (amid p (Putting c.args.ring c.fetch_add-ticket.result c.load-seen.result) []) room same c.exchange.ensures.3 in (
      c.exchange.ensures.0 ∙ c.load-seen.ensures.0 ∙ c.fetch_add-ticket.ensures.0 ∙ at,
      omega (arith, ap (λ z. z.words) at),
      store_tail_at (plan_of c.args.top.now.key) c.args.top.now.table_id.slots c.exchange.new.seat.id c.exchange.new.seat.me (acting_amid p (Putting c.args.ring c.fetch_add-ticket.result c.load-seen.result)) c.args.ring (16 * c.args.ring + 24) c.fetch_add-ticket.result c.load-seen.result c.args.message
          (c.args.count + 1) ((place, Some c.args.message) ∷ []) refl has (refl, c.requires.sender, ap (λ (k : ℕ). k + 1) c.requires.numbers.1, refl),
    )

pub returns-clause-seat : goal.returns-clause-seat
returns-clause-seat g c = let p : PassView g.row.M.Denot = pass_at c.args.place.now in
    let room = found_room (pass_at c.args.place.now) c.args.ring c.fetch_add-ticket.result (step c.args.top.now.table_id.slots 0 1 0 none) (step c.args.top.now.table_id.slots (16 * c.args.ring + 16) 0 0 none) c.args.place.now.me c.fetch_add-ticket.new.seat.me c.load-seen.new.seat.me c.requires.seat.0 c.fetch_add-ticket.ensures.2 c.load-seen.result c.args.count c.args.cells refl c.load-seen.ensures.2 c.requires.numbers.0 c.requires.numbers.1 c.if-waiting-cells.false in
    let place : ℕ = slot p.plan.cells c.args.ring (length (sent c.args.ring (trace_at p))) in
    let same : c.slot_of-slot.result ≡ place = c.slot_of-slot.ensures ∙ (λ i. slot (c.requires.numbers.0 i) c.args.ring (c.requires.numbers.1 i)) in
    let has = exchanged_amid c.load-seen.new.seat.me c.exchange.new.seat.me place c.slot_of-slot.result None (Some c.args.message) (amid p (Putting c.args.ring c.fetch_add-ticket.result c.load-seen.result) []) room same c.exchange.ensures.3 in
    is_resting c.args.place.now c.store.new.seat c.fetch_add-ticket.result (Sent c.args.ring c.load-seen.result c.args.message) (c.store.ensures.0 ∙ c.exchange.ensures.0 ∙ c.load-seen.ensures.0 ∙ c.fetch_add-ticket.ensures.0)
    (sent_amid p c.args.ring c.fetch_add-ticket.result (step c.args.top.now.table_id.slots 0 1 0 none) (step c.args.top.now.table_id.slots (16 * c.args.ring + 16) 0 0 none) c.args.place.now.me c.fetch_add-ticket.new.seat.me c.load-seen.new.seat.me c.requires.seat.0 c.fetch_add-ticket.ensures.2 c.load-seen.result place c.args.message (c.args.count + 1) c.exchange.new.seat.me c.store.new.seat.me
    (step c.args.top.now.table_id.slots (16 * c.args.ring + 24) (c.args.count + 1) 0 none) has c.store.ensures.2)

pub returns-clause-sent : goal.returns-clause-sent
returns-clause-sent g c = let p : PassView g.row.M.Denot = pass_at c.args.place.now in
    let room = found_room (pass_at c.args.place.now) c.args.ring c.fetch_add-ticket.result (step c.args.top.now.table_id.slots 0 1 0 none) (step c.args.top.now.table_id.slots (16 * c.args.ring + 16) 0 0 none) c.args.place.now.me c.fetch_add-ticket.new.seat.me c.load-seen.new.seat.me c.requires.seat.0 c.fetch_add-ticket.ensures.2 c.load-seen.result c.args.count c.args.cells refl c.load-seen.ensures.2 c.requires.numbers.0 c.requires.numbers.1 c.if-waiting-cells.false in
    let place : ℕ = slot p.plan.cells c.args.ring (length (sent c.args.ring (trace_at p))) in
    let same : c.slot_of-slot.result ≡ place = c.slot_of-slot.ensures ∙ (λ i. slot (c.requires.numbers.0 i) c.args.ring (c.requires.numbers.1 i)) in
    let has = exchanged_amid c.load-seen.new.seat.me c.exchange.new.seat.me place c.slot_of-slot.result None (Some c.args.message) (amid p (Putting c.args.ring c.fetch_add-ticket.result c.load-seen.result) []) room same c.exchange.ensures.3 in (
      is_next c.args.place.now c.fetch_add-ticket.result c.requires.seat.0 c.fetch_add-ticket.ensures.2.0,
      (
        c.load-seen.result,
        is_noted c.args.place.now c.store.new.seat c.fetch_add-ticket.result (Sent c.args.ring c.load-seen.result c.args.message) (c.store.ensures.0 ∙ c.exchange.ensures.0 ∙ c.load-seen.ensures.0 ∙ c.fetch_add-ticket.ensures.0)
            (sent_amid p c.args.ring c.fetch_add-ticket.result (step c.args.top.now.table_id.slots 0 1 0 none) (step c.args.top.now.table_id.slots (16 * c.args.ring + 16) 0 0 none) c.args.place.now.me c.fetch_add-ticket.new.seat.me c.load-seen.new.seat.me c.requires.seat.0 c.fetch_add-ticket.ensures.2 c.load-seen.result place c.args.message (c.args.count + 1) c.exchange.new.seat.me c.store.new.seat.me
            (step c.args.top.now.table_id.slots (16 * c.args.ring + 24) (c.args.count + 1) 0 none) has c.store.ensures.2),
      ),
    )
