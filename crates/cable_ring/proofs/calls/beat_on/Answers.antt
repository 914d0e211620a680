use Rattle.std.proofs.Common.{rules, arith, refl, sym, ap, subst, ◌∙◌, ◌≡◌, ◌+◌, ◌*◌, ◌%◌, ◌<◌, ◌≤◌, ◌∷◌, [], List, ℕ, length, Option, Some, None}
use Rattle.atomic_table.specs.Table.{step}
use mathlib.Core.Option.{none}
use Rattle.cable_trace.specs.declared.trace.Action.TheVariants.{Stored, Loaded}
use Rattle.cable_trace.specs.declared.trace.Pending.TheVariants.{Idle, Drew, Putting, Fetching, Took}
use Rattle.cable_trace.specs.Trace.{sent, shown, taken}
use Rattle.cable_ring.specs.Cells.{slot}
use Rattle.cable_ring.specs.Passes.{PassView, pass_at, trace_at, seated, noted}
use Rattle.cable_ring.specs.Planned.{plan_of}
use Rattle.cable_ring.specs.Steps.{Seated, trace_of, going_on}
use Rattle.cable_trace.specs.Step.{with_event}
use Rattle.cable_ring.proofs.AtSeat.{draw_at, store_beat_at}
use Rattle.cable_ring.proofs.AfterCall.{acting_amid, drawn_count, is_next, is_noted, is_resting, drew_amid}
use Rattle.cable_ring.proofs.calls.beat_on.Goals as goal

pub fetch_add-ticket-requires : goal.fetch_add-ticket-requires
fetch_add-ticket-requires g c = let same = c.requires.table in let wide = c.requires.seat.1.words in (
  same,
  omega (arith, ap (λ z. z.words) same),
  draw_at (plan_of c.args.top.now.key) c.args.top.now.table_id.slots c.args.place.now.id c.args.place.now.me (acting_amid (pass_at c.args.place.now) Idle) c.requires.seat.0
      (refl, drawn_count (pass_at c.args.place.now) c.requires.seat.2),
)

pub store-requires : goal.store-requires
store-requires g c = let same = c.requires.table in let wide = c.requires.seat.1.words in (
  c.fetch_add-ticket.ensures.0 ∙ same,
  omega (arith, ap (λ z. z.words) same),
  store_beat_at (plan_of c.args.top.now.key) c.args.top.now.table_id.slots c.fetch_add-ticket.new.seat.id c.fetch_add-ticket.new.seat.me (acting_amid (pass_at c.args.place.now) (Drew c.fetch_add-ticket.result)) c.fetch_add-ticket.result c.args.number (drew_amid (pass_at c.args.place.now) 0 c.fetch_add-ticket.result (step c.args.top.now.table_id.slots 0 1 0 none) (step c.args.top.now.table_id.slots 0 1 0 none) c.args.place.now.me c.fetch_add-ticket.new.seat.me c.fetch_add-ticket.new.seat.me c.requires.seat.0 c.fetch_add-ticket.ensures.2) (refl, c.requires.writer, c.requires.higher.0, c.requires.higher.1),
)

pub returns-clause-seat : goal.returns-clause-seat
returns-clause-seat g c = let is = drew_amid (pass_at c.args.place.now) 0 c.fetch_add-ticket.result (step c.args.top.now.table_id.slots 0 1 0 none) (step c.args.top.now.table_id.slots 0 1 0 none) c.args.place.now.me c.fetch_add-ticket.new.seat.me c.fetch_add-ticket.new.seat.me c.requires.seat.0 c.fetch_add-ticket.ensures.2 in
    let rest-is = c.store.ensures.2 c.fetch_add-ticket.result (ap (λ (m : Seated g.row.M.Denot). (trace_of m).pending) is) ∙ ap (λ (m : Seated g.row.M.Denot). going_on m (with_event (trace_of m) c.fetch_add-ticket.result (Stored c.args.number)) m.1) is in
    let table = c.store.ensures.0 ∙ c.fetch_add-ticket.ensures.0 in
    is_resting c.args.place.now c.store.new.seat c.fetch_add-ticket.result (Stored c.args.number) table rest-is

pub returns-clause-noted : goal.returns-clause-noted
returns-clause-noted g c = let is = drew_amid (pass_at c.args.place.now) 0 c.fetch_add-ticket.result (step c.args.top.now.table_id.slots 0 1 0 none) (step c.args.top.now.table_id.slots 0 1 0 none) c.args.place.now.me c.fetch_add-ticket.new.seat.me c.fetch_add-ticket.new.seat.me c.requires.seat.0 c.fetch_add-ticket.ensures.2 in
    let rest-is = c.store.ensures.2 c.fetch_add-ticket.result (ap (λ (m : Seated g.row.M.Denot). (trace_of m).pending) is) ∙ ap (λ (m : Seated g.row.M.Denot). going_on m (with_event (trace_of m) c.fetch_add-ticket.result (Stored c.args.number)) m.1) is in
    let table = c.store.ensures.0 ∙ c.fetch_add-ticket.ensures.0 in
    is_noted c.args.place.now c.store.new.seat c.fetch_add-ticket.result (Stored c.args.number) table rest-is
