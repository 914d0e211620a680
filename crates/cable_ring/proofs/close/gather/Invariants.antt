use Rattle.std.proofs.Common.{◌≡◌, [], map}
use Rattle.cable_ring.specs.declared.view.View.TheVariants.{Desk}
use Rattle.cable_ring.specs.Passes.{trace_at}
use Rattle.cable_ring.specs.Planned.{plan_of}
use Rattle.cable_ring.proofs.close.gather.Given as goal

-- what the actors so far did is gathered
abbrev pub invariant-loop-pass : goal.invariant-loop-pass
invariant-loop-pass g l = record {
  table : l.desk.table_id ≡ l.fn.desk.table_id;
  desk : l.desk.me ≡ (Desk (plan_of l.top.key) (plan_of l.top.key).actors (map trace_at l.yielded), []);
}
