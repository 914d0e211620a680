use Rattle.std.proofs.Common.{rules, arith, refl, ap, ◌∙◌, ◌≡◌}
use Rattle.cable_trace.specs.declared.trace.Action.TheVariants.{Marked}
use Rattle.cable_trace.specs.declared.trace.Pending.TheVariants.{Idle}
use Rattle.cable_trace.specs.Step.{with_event}
use Rattle.cable_ring.specs.Passes.{pass_at}
use Rattle.cable_ring.specs.Planned.{plan_of}
use Rattle.cable_ring.specs.Steps.{Seated, trace_of, going_on}
use Rattle.cable_ring.proofs.AtSeat.{mark_at}
use Rattle.cable_ring.proofs.AfterCall.{acting_amid, drawn_count, is_next, is_noted, is_resting}
use Rattle.cable_ring.proofs.calls.draw_on.Goals as goal

pub fetch_add-requires : goal.fetch_add-requires
fetch_add-requires g c = let same = c.requires.table in let wide = c.requires.seat.1.words in (
  same,
  omega (arith, ap (λ z. z.words) same),
  mark_at (plan_of c.args.top.now.key) c.args.top.now.table_id.slots c.args.place.now.id c.args.place.now.me (acting_amid (pass_at c.args.place.now) Idle) c.requires.seat.0
      (refl, drawn_count (pass_at c.args.place.now) c.requires.seat.2),
)

pub returns : goal.returns
returns g c = let did = c.fetch_add.ensures in
    let after = did.2.1 ∙ ap (λ (m : Seated g.row.M.Denot). going_on m (with_event (trace_of m) c.fetch_add.result Marked) m.1) c.requires.seat.0 in record {
      next = is_next c.args.place.now c.fetch_add.result c.requires.seat.0 did.2.0;
      noted = is_noted c.args.place.now c.fetch_add.new.seat c.fetch_add.result Marked did.0 after;
      seat = is_resting c.args.place.now c.fetch_add.new.seat c.fetch_add.result Marked did.0 after;
    }
