use Rattle.std.proofs.Common.{rules, arith, refl, sym, ap, subst, ◌∙◌, ◌≡◌, ◌+◌, ◌*◌, ◌%◌, ◌<◌, ◌≤◌, ◌∷◌, [], List, ℕ, length, Option, Some, None}
use Rattle.atomic_table.specs.Table.{step}
use mathlib.Core.Option.{none}
use Rattle.cable_trace.specs.declared.trace.Action.TheVariants.{Sent, Refused, Looked, Taken}
use Rattle.cable_trace.specs.declared.trace.Pending.TheVariants.{Idle, Drew, Putting, Fetching, Took}
use Rattle.cable_trace.specs.Trace.{sent, shown, taken}
use Rattle.cable_ring.specs.Cells.{slot}
use Rattle.cable_ring.specs.Passes.{PassView, pass_at, trace_at, seated, noted}
use Rattle.cable_ring.specs.Planned.{plan_of}
use Rattle.cable_ring.specs.Steps.{Seated}
use Rattle.cable_ring.proofs.AtSeat.{draw_at, see_tail_at}
use Rattle.cable_ring.proofs.AfterCall.{acting_amid, drawn_count, is_next, is_noted, is_resting, drew_amid, taker-lt}
use Rattle.cable_ring.proofs.Counting.{shown_noted}
use Rattle.cable_ring.proofs.Chains.{found-tail, taken-le-tail, tail-le}
use Rattle.cable_trace.proofs.Tells.{same_ring}
use Rattle.cable_ring.proofs.calls.look_on.Goals as goal

pub fetch_add-ticket-requires : goal.fetch_add-ticket-requires
fetch_add-ticket-requires g c = let same = c.requires.table in let wide = c.requires.seat.1.words in (
  same,
  omega (arith, ap (λ z. z.words) same),
  draw_at (plan_of c.args.top.now.key) c.args.top.now.table_id.slots c.args.place.now.id c.args.place.now.me (acting_amid (pass_at c.args.place.now) Idle) c.requires.seat.0
      (refl, drawn_count (pass_at c.args.place.now) c.requires.seat.2),
)

pub load-tail-requires : goal.load-tail-requires
load-tail-requires g c = let same = c.requires.table in let wide = c.requires.seat.1.words in let below = taker-lt (pass_at c.args.place.now).plan.rings c.args.ring (pass_at c.args.place.now).actor c.requires.taker in (
  c.fetch_add-ticket.ensures.0 ∙ same,
  omega (arith, ap (λ z. z.words) same),
  see_tail_at (plan_of c.args.top.now.key) c.args.top.now.table_id.slots c.fetch_add-ticket.new.seat.id c.fetch_add-ticket.new.seat.me (acting_amid (pass_at c.args.place.now) (Drew c.fetch_add-ticket.result)) c.args.ring (16 * c.args.ring + 24) c.fetch_add-ticket.result refl
      (drew_amid (pass_at c.args.place.now) c.args.ring c.fetch_add-ticket.result (step c.args.top.now.table_id.slots 0 1 0 none) (step c.args.top.now.table_id.slots (16 * c.args.ring + 24) 0 0 none) c.args.place.now.me c.fetch_add-ticket.new.seat.me c.fetch_add-ticket.new.seat.me c.requires.seat.0 c.fetch_add-ticket.ensures.2) (refl, c.requires.taker),
)

pub returns-clause-seat : goal.returns-clause-seat
returns-clause-seat g c = let p : PassView g.row.M.Denot = pass_at c.args.place.now in let found = found-tail (pass_at c.args.place.now) c.args.ring c.fetch_add-ticket.result (step c.args.top.now.table_id.slots 0 1 0 none) (step c.args.top.now.table_id.slots (16 * c.args.ring + 24) 0 0 none) c.args.place.now.me c.fetch_add-ticket.new.seat.me c.load-tail.new.seat.me c.requires.seat.0 c.fetch_add-ticket.ensures.2 c.load-tail.result refl c.load-tail.ensures.2 in let table = c.load-tail.ensures.0 ∙ c.fetch_add-ticket.ensures.0 in is_resting c.args.place.now c.load-tail.new.seat c.fetch_add-ticket.result (Looked c.args.ring c.load-tail.result found.0) table found.1

pub returns-clause-noted : goal.returns-clause-noted
returns-clause-noted g c = let p : PassView g.row.M.Denot = pass_at c.args.place.now in let found = found-tail (pass_at c.args.place.now) c.args.ring c.fetch_add-ticket.result (step c.args.top.now.table_id.slots 0 1 0 none) (step c.args.top.now.table_id.slots (16 * c.args.ring + 24) 0 0 none) c.args.place.now.me c.fetch_add-ticket.new.seat.me c.load-tail.new.seat.me c.requires.seat.0 c.fetch_add-ticket.ensures.2 c.load-tail.result refl c.load-tail.ensures.2 in let table = c.load-tail.ensures.0 ∙ c.fetch_add-ticket.ensures.0 in (found.0, is_noted c.args.place.now c.load-tail.new.seat c.fetch_add-ticket.result (Looked c.args.ring c.load-tail.result found.0) table found.1)

pub returns-clause-shown : goal.returns-clause-shown
returns-clause-shown g c = let p : PassView g.row.M.Denot = pass_at c.args.place.now in let found = found-tail (pass_at c.args.place.now) c.args.ring c.fetch_add-ticket.result (step c.args.top.now.table_id.slots 0 1 0 none) (step c.args.top.now.table_id.slots (16 * c.args.ring + 24) 0 0 none) c.args.place.now.me c.fetch_add-ticket.new.seat.me c.load-tail.new.seat.me c.requires.seat.0 c.fetch_add-ticket.ensures.2 c.load-tail.result refl c.load-tail.ensures.2 in let table = c.load-tail.ensures.0 ∙ c.fetch_add-ticket.ensures.0 in let is = is_noted c.args.place.now c.load-tail.new.seat c.fetch_add-ticket.result (Looked c.args.ring c.load-tail.result found.0) table found.1 in
    let total : c.load-tail.result ≡ length (shown c.args.ring (trace_at p)) + length found.0 = found.2 in
    let all = shown_noted p c.fetch_add-ticket.result (Looked c.args.ring c.load-tail.result found.0) c.args.ring in let own = ap (λ (l : List g.row.M.Denot). length l) (same_ring c.args.ring found.0 []) in
    let sum : c.load-tail.result ≡ length (shown c.args.ring (trace_at (noted p c.fetch_add-ticket.result (Looked c.args.ring c.load-tail.result found.0)))) = omega (arith, all, own, total) in
    sum ∙ ap (λ (q : PassView g.row.M.Denot). length (shown c.args.ring (trace_at q))) (sym is)

pub returns-clause-within : goal.returns-clause-within
returns-clause-within g c = (taken-le-tail (pass_at c.args.place.now) c.args.ring c.fetch_add-ticket.result (step c.args.top.now.table_id.slots 0 1 0 none) (step c.args.top.now.table_id.slots (16 * c.args.ring + 24) 0 0 none) c.args.place.now.me c.fetch_add-ticket.new.seat.me c.load-tail.new.seat.me c.requires.seat.0 c.fetch_add-ticket.ensures.2 c.load-tail.result refl c.load-tail.ensures.2, tail-le (pass_at c.args.place.now) c.args.ring c.fetch_add-ticket.result (step c.args.top.now.table_id.slots 0 1 0 none) (step c.args.top.now.table_id.slots (16 * c.args.ring + 24) 0 0 none) c.args.place.now.me c.fetch_add-ticket.new.seat.me c.load-tail.new.seat.me c.requires.seat.0 c.fetch_add-ticket.ensures.2 c.load-tail.result refl c.load-tail.ensures.2)
