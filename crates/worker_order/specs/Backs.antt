-- Of which instances a worker's table has the backs.
use Rattle.std.specs.Prelude.{◌≡◌, ℕ, nat_eq, Bool, false, if◌then◌else◌, List, slice_get, Option, Some, None, unwrap_or}
use Rattle.record_law.specs.Message.{History}
use Rattle.record_law.specs.Worker as law
use Rattle.worker_order.specs.declared.backs.MovedBack.{MovedBack}

-- the worker has the back of an instance
abbrev pub holds : List Bool → ℕ → Bool
holds backs inst = unwrap_or (slice_get backs inst) false

-- a table says which backs a worker has after its own steps
abbrev pub AreBacks : ℕ → List Bool → History → Type 0
AreBacks worker backs h = (inst : ℕ) (here : Bool) → slice_get backs inst ≡ Some here → here ≡ law.has_back worker inst h

-- whether the worker has a back, where another may have moved
abbrev pub back_after : Option MovedBack → ℕ → Bool → Bool
back_after None inst before = before
back_after (Some moved) inst before = if nat_eq moved.inst inst then moved.here else before
