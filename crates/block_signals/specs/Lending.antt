-- What is lent for a run.
use Rattle.std.specs.Prelude.{ℕ, [], slice_index_or}
use Rattle.std.specs.Borrow.{Lends, MutBor, Fml}
use Rattle.std.specs.Vec.{with_item}
use Rattle.plug_api.specs.Buffers.{Left}
use Rattle.plug_api.specs.contracts.outs.Outs.{the_row as outs_row}
use Rattle.block_signals.specs.declared.outlet.Outlet.{Outlet}
use Rattle.block_signals.specs.declared.outlets.Outlets.{Outlets}
use Rattle.block_signals.specs.contracts.outlets.Outlets.{the_row as outlets_row}

-- an instance's outputs of this block
abbrev pub outlet_at : Outlets → ℕ → Outlet
outlet_at outlets inst = slice_index_or outlets.each.items inst (record { now = record { blocks = []; values = []; forges = [] }; before = record { blocks = []; values = []; forges = [] } })

abbrev pub now_at : Outlets → ℕ → Left
now_at outlets inst = (outlet_at outlets inst).now

-- the outputs with others of an instance in this block
abbrev pub with_now : Outlets → ℕ → Left → Outlets
with_now outlets inst outs = record outlets { each = with_item outlets.each inst (record (outlet_at outlets inst) { now = outs }) }

-- the outputs s end with those after r as an instance's of this block
abbrev pub LendsNow : MutBor Outlets → ℕ → MutBor Left → Fml
LendsNow s inst r = Lends outlets_row outs_row s r (with_now s.now inst)
