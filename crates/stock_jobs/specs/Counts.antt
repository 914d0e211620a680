-- Counts of attempts and responses, and what they are as numbers of sound and of control.
use Rattle.std.specs.Prelude.{ℕ, ◌+◌, ◌*◌, ◌^◌, ◌==◌, pos, min, if◌then◌else◌}
use Rattle.lv_base.specs.declared.number.Fixed.{Fixed}
use Rattle.stock_jobs.specs.declared.count.TheConstants.{MOST_COUNT}

-- one more; a count stands still at 2^39 - 1
abbrev pub counted : ℕ → ℕ
counted count = min (count + 1) MOST_COUNT

-- 1.0 for each
abbrev pub wholes : ℕ → Fixed
wholes count = record { 0 = pos (count * 2 ^ 24) }

-- 2^-8 for each
abbrev pub steps : ℕ → Fixed
steps count = record { 0 = pos (count * 2 ^ 16) }

-- an answer of this status is counted (LV2 worker: LV2_Worker_Status)
abbrev pub tallied : ℕ → ℕ → ℕ → ℕ
tallied status answer count = if answer == status then counted count else count
