-- The table and the plan of a cable.
use Rattle.atomic_table.specs.Seated.{TableId}
use Rattle.cable_ring.specs.declared.cable.Cable.{Cable}
use Rattle.cable_ring.specs.declared.view.Plan.{Plan}
use Rattle.cable_ring.specs.Planned.{plan_of}

module _ {M : Type 0} where
  abbrev pub table_of : Cable M → TableId
  table_of cable = cable.table.shared.table_id

  abbrev pub plan_at : Cable M → Plan
  plan_at cable = plan_of cable.layout
