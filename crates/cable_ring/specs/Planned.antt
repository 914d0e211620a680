-- The plan of a cable.
use Rattle.cable_ring.specs.declared.layout.Layout.{Layout}
use Rattle.cable_ring.specs.declared.view.Plan.{Plan}

abbrev pub plan_of : Layout → Plan
plan_of layout = record { first = layout.first; cells = layout.cells; actors = layout.actors; rings = layout.rings.items }
