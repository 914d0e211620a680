-- A vault in memory.
use Rattle.std.specs.Prelude.{ℕ, List, [], ◌∷◌, length, Bool, true, ◌==◌, if◌then◌else◌, nat_le, Option, Some, None, bytes_eq}
use Rattle.std.specs.List.{list_any, position}
use Rattle.std.specs.Map.{lookup}
use Rattle.lv_outside.specs.Count.{next_count}
use Rattle.lv_outside.specs.Counts.{counted, no_counts}
use Rattle.lv_outside.specs.World.{VaultState}
use Rattle.lv_outside.specs.declared.counts.Counts.{Counts}
use Rattle.lv_outside.specs.declared.answer.Fetch.{Fetch}
use Rattle.lv_outside.specs.declared.answer.Fetch.TheVariants.{Got, Absent, TooLong, Failed}
use Rattle.lv_outside.specs.declared.answer.Put.{Put}
use Rattle.lv_outside.specs.declared.answer.Put.TheVariants as answer

-- its files, each a path and bytes, the numbers of the calls that are to fail, and its counts
pub record MemVaultState : Type 0 where
  pub files : List (List ℕ × List ℕ)
  pub fails : List ℕ
  pub calls : ℕ
  pub counts : Counts

-- a vault with these files, before its first call
abbrev pub new_vault : List (List ℕ × List ℕ) → List ℕ → MemVaultState
new_vault files fails = record { files = files; fails = fails; calls = 0; counts = no_counts }

-- the file at a path, the first if there are several
abbrev pub file_of : MemVaultState → List ℕ → Option (List ℕ)
file_of vault path = lookup (bytes_eq path) vault.files

-- what is known of it: all
abbrev pub known_vault : MemVaultState → VaultState
known_vault vault =
    record { tells = true; file = file_of vault; faults = vault.counts.faults; absences = vault.counts.absences; longs = vault.counts.longs }

-- the place of the first file at a path
abbrev pub place_in : List (List ℕ × List ℕ) → List ℕ → Option ℕ
place_in files path = position (λ file. bytes_eq path file.0) files

-- the next call is one of those that are to fail
abbrev pub is_vault_due : MemVaultState → Bool
is_vault_due vault = list_any (λ n. n == vault.calls) vault.fails

-- what a read of a file of at most so many bytes answers, where nothing fails
abbrev pub found : Option (List ℕ) → ℕ → Fetch
found None most = Absent
found (Some bytes) most = if nat_le (length bytes) most then Got else TooLong

-- what the next read answers, but for want of memory
abbrev pub read_answer : MemVaultState → List ℕ → ℕ → Fetch
read_answer vault path most = if is_vault_due vault then Failed else found (file_of vault path) most

-- the vault after a read with this answer
abbrev pub after_read : MemVaultState → Fetch → MemVaultState
after_read vault answer = record vault { calls = next_count vault.calls; counts = counted vault.counts answer }

-- the files after a write: in the place of the first at the path, or else after all
abbrev pub put : List ℕ → List ℕ → List (List ℕ × List ℕ) → List (List ℕ × List ℕ)
put path bytes [] = (path, bytes) ∷ []
put path bytes (file ∷ files) = if bytes_eq path file.0 then (path, bytes) ∷ files else file ∷ put path bytes files

-- the vault after a write with this answer: a failure leaves all files
abbrev pub after_write : MemVaultState → List ℕ → List ℕ → Put → MemVaultState
after_write vault path bytes answer.Done = record vault { files = put path bytes vault.files; calls = next_count vault.calls }
after_write vault path bytes answer.Failed = record vault { calls = next_count vault.calls; counts = counted vault.counts Failed }
