-- How many jobs a worker's restores sent to itself, and how many it took.
use Rattle.std.specs.Prelude.{◌≡◌, ℕ, ◌-◌, ◌^◌, nat_lt, min, Bool, false, List, slice_get, Option, Some, None}
use Rattle.std.specs.Option.{option_map_or}
use Rattle.step_law.specs.declared.entry.Kind.TheVariants.{Take, Send}
use Rattle.step_law.specs.declared.ring.Ring.{Ring}
use Rattle.step_law.specs.declared.ring.Ring.TheVariants.{LocalJobs}
use Rattle.record_law.specs.History.{count}
use Rattle.record_law.specs.Message.{History}
use Rattle.worker_order.specs.declared.worker_stage.LocalCount.{LocalCount}

-- the largest count
abbrev pub most_counted : ℕ
most_counted = 2 ^ 64 - 1

-- the counts of an instance, up to the largest
pub record IsLocalCount (inst : ℕ) (it : LocalCount) (h : History) : Type 0 where
  pub sent : it.sent ≡ min (count Send (LocalJobs inst) h) most_counted
  pub taken : it.taken ≡ min (count Take (LocalJobs inst) h) most_counted

abbrev pub AreLocals : List LocalCount → History → Type 0
AreLocals locals h = (inst : ℕ) (it : LocalCount) → slice_get locals inst ≡ Some it → IsLocalCount inst it h

-- a job waits that a restore of the instance scheduled
abbrev pub has_local : List LocalCount → ℕ → Bool
has_local locals inst = option_map_or (λ (it : LocalCount). nat_lt it.taken it.sent) (slice_get locals inst) false

-- the instance whose own jobs a ring has
abbrev pub local_inst : Ring → Option ℕ
local_inst (LocalJobs inst) = Some inst
local_inst ring = None
