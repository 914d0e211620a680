-- The jobs of tank (LV2 worker).
use Rattle.std.specs.Prelude.{ℕ, ◌==◌, if◌then◌else◌, List, [], ◌∷◌, length}
use Rattle.stock_tank.specs.declared.job.Job.{Job}
use Rattle.stock_tank.specs.declared.job.Job.TheVariants.{Set, Restore, Other}

-- a level in eight bytes restores it
abbrev pub restore_of : List ℕ → Job
restore_of level = if length level == 8 then Restore level else Other

-- where a 1 stands before it
abbrev pub restored_by : List ℕ → Job
restored_by [] = Other
restored_by (first ∷ level) = if first == 1 then restore_of level else Other

-- eight bytes are a level that was set
abbrev pub job_of : List ℕ → Job
job_of body = if length body == 8 then Set body else restored_by body

-- the job that restores a level
abbrev pub restoring : List ℕ → List ℕ
restoring level = 1 ∷ level
