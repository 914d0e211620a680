-- A token as a drawer of tickets: what it drew, how many are left, and all else that its actor did.
use Rattle.std.specs.Prelude.{ℕ, ◌-◌, ◌^◌, Bool, true, false, List, length, filter}
use Rattle.cable_trace.specs.declared.trace.Action.{Action}
use Rattle.cable_trace.specs.declared.trace.Action.TheVariants.{Marked}
use Rattle.cable_trace.specs.Trace.{drawn}
use Rattle.cable_ring.specs.Passes.{PassView, trace_at}

module _ {M : Type 0} where
  abbrev pub pass_left : PassView M → ℕ
  pass_left pass = 2 ^ 56 - length pass.events

  abbrev pub pass_drawn : PassView M → List ℕ
  pass_drawn pass = drawn (trace_at pass)

  -- an action on a ring or on the beat
  abbrev pub is_on_cable : Action M → Bool
  is_on_cable Marked = false
  is_on_cable action = true

  abbrev pub away_from_draws : PassView M → PassView M
  away_from_draws pass = record { table = pass.table; actor = pass.actor; plan = pass.plan; events = filter (λ event. is_on_cable event.action) pass.events }
