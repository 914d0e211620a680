-- A write of a vault in memory, by the place of the first file at the path.
use Rattle.std.proofs.Common.{◌≡◌, ℕ, ◌<◌, ◌≤◌, List, [], ◌∷◌, ◌++◌, length, Some, None, true, false, cond, slice_set, bytes_eq, refl, ◌∙◌, arith}
use Rattle.std.specs.Map.{lookup}
use Rattle.std.specs.List.{position_or_len}
use Rattle.std.proofs.lemmas.Grind.{common_steps}
use Rattle.std.proofs.lemmas.Cmp.{nat_list_eq_equiv}
use Rattle.std.proofs.lemmas.Slice.Eq.{bytes_eq-Decides}
use Rattle.std.proofs.lemmas.Bool.{false_from_ne_true}
use Rattle.lv_outside.specs.MemoryVault.{MemVaultState, file_of, place_in, put}
use Rattle.lv_outside.specs.Files.{Holds}

-- how many files stand before the first at the path
abbrev before : List ℕ → List (List ℕ × List ℕ) → ℕ
before path files = position_or_len (λ file. bytes_eq path file.0) files

set_first : (path bytes : List ℕ) (files : List (List ℕ × List ℕ)) → before path files < length files
    → slice_set files (before path files) (path, bytes) ≡ put path bytes files
set_first path bytes [] within = grind arith
set_first path bytes (file ∷ files) within = grind (arith, common_steps, set_first path bytes files)

push_none : (path bytes : List ℕ) (files : List (List ℕ × List ℕ)) → length files ≤ before path files
    → files ++ (path, bytes) ∷ [] ≡ put path bytes files
push_none path bytes [] none = refl
push_none path bytes (file ∷ files) none = grind (arith, common_steps, push_none path bytes files)

-- the place is one of the files'
pub place_within : (path : List ℕ) (files : List (List ℕ × List ℕ)) (place : ℕ) → place_in files path ≡ Some place → place < length files
place_within path files place found = grind (arith, common_steps)

-- a write over the file at the place
pub put_at_place : (path bytes : List ℕ) (files : List (List ℕ × List ℕ)) (place : ℕ) → place_in files path ≡ Some place
    → slice_set files place (path, bytes) ≡ put path bytes files
put_at_place path bytes files place found = grind (arith, common_steps, set_first path bytes files)

-- a write after all files
pub put_behind : (path bytes : List ℕ) (files : List (List ℕ × List ℕ)) → place_in files path ≡ None
    → files ++ (path, bytes) ∷ [] ≡ put path bytes files
put_behind path bytes files none = grind (arith, common_steps, push_none path bytes files)

-- what is at each path after a write
pub lookup-put : (path bytes q : List ℕ) (files : List (List ℕ × List ℕ))
    → lookup (bytes_eq q) (put path bytes files) ≡ cond (bytes_eq q path) (Some bytes) (lookup (bytes_eq q) files)
lookup-put path bytes q [] = refl
lookup-put path bytes q (file ∷ files) =
    elim (bytes_eq path file.0) as (λ b. bytes_eq path file.0 ≡ b
    → lookup (bytes_eq q) (cond b ((path, bytes) ∷ files) (file ∷ put path bytes files))
    ≡ cond (bytes_eq q path) (Some bytes) (lookup (bytes_eq q) (file ∷ files))) [
      | true ↦ λ e. let same : bytes_eq q path ≡ bytes_eq q file.0 = nat_list_eq_equiv.symm q path ∙ nat_list_eq_equiv.congr path file.0 q e ∙ nat_list_eq_equiv.symm file.0 q in grind (arith, common_steps, same)
      | false ↦ λ e. let apart : (bytes_eq q path ≡ true → bytes_eq q file.0 ≡ bytes_eq path file.0) = nat_list_eq_equiv.congr q path file.0 in grind (arith, common_steps, apart, e, lookup-put path bytes q files)
    ] refl

-- a write makes the path hold the bytes, and leaves the others
pub holds_put : (old : MemVaultState) (path bytes : List ℕ) (new : MemVaultState) → new.files ≡ put path bytes old.files → Holds (file_of old) (file_of new) path bytes
holds_put old path bytes new e = record {
  here = rw e (rw (lookup-put path bytes path old.files) (rw (nat_list_eq_equiv.refl path) refl));
  others = λ q differs. rw e (rw (lookup-put path bytes q old.files) (rw (false_from_ne_true (bytes_eq q path) (λ same. differs ((bytes_eq-Decides q path).0 same))) refl));
}

pub ruleset writes = (place_within, put_at_place, put_behind)
