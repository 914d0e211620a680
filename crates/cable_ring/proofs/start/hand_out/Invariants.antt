use Rattle.std.proofs.Common.{◌≡◌, [], ◌∷◌}
use Rattle.cable_ring.specs.declared.view.View.TheVariants.{Desk}
use Rattle.cable_ring.specs.Opened.{AreOpened}
use Rattle.cable_ring.specs.Planned.{plan_of}
use Rattle.cable_ring.proofs.start.hand_out.Given as goal

abbrev pub invariant-loop-actor : goal.invariant-loop-actor
invariant-loop-actor g l = record {
  table : l.desk.table_id ≡ l.fn.desk.table_id;
  desk : l.desk.me ≡ (Desk (plan_of l.layout) l.actor [], []);
  opened : AreOpened l.top.table_id (plan_of l.layout) l.actor l.passes.items;
}
