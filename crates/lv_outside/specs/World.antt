-- What is known of the vault and of the sink, before a call and after it.
use Rattle.std.specs.Prelude.{◌≡◌, ℕ, Bool, false, IsTrue, List, [], ◌++◌, Option, None}
use Rattle.lv_outside.specs.Count.{Rose}
use Rattle.lv_outside.specs.declared.counts.Counts.{Counts}

-- a vault at a moment: whether its contents are known, what they are, and its counts of faults, absences and files too long
pub record VaultState : Type 0 where
  pub tells : Bool
  pub file : List ℕ → Option (List ℕ)
  pub faults : ℕ
  pub absences : ℕ
  pub longs : ℕ

-- a sink at a moment: whether what it has taken is known, what that is, and its count of faults
pub record SinkState : Type 0 where
  pub tells : Bool
  pub taken : List ℕ
  pub faults : ℕ

-- of the system's files nothing is known but the counts
abbrev pub unknown_vault : Counts → VaultState
unknown_vault counts =
    record { tells = false; file = λ path. None; faults = counts.faults; absences = counts.absences; longs = counts.longs }

-- of standard output nothing is known but the count
abbrev pub unknown_sink : ℕ → SinkState
unknown_sink faults = record { tells = false; taken = []; faults = faults }

-- every known file is as before
abbrev pub LeavesFiles : VaultState → VaultState → Type 0
LeavesFiles before after = IsTrue before.tells → (path : List ℕ) → after.file path ≡ before.file path

-- the line was put on the sink, unless the sink failed in this call
abbrev pub IsSaid : SinkState → SinkState → List ℕ → Type 0
IsSaid before after line =
    IsTrue before.tells → (Rose before.faults after.faults → ⊥) → after.taken ≡ before.taken ++ line
