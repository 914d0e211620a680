-- Files as a map from paths to bytes, and what a read and a write do with it.
use Rattle.std.specs.Prelude.{◌≡◌, ◌≢◌, ℕ, ◌<◌, ◌≤◌, List, length, Option, Some, None}
use Rattle.lv_outside.specs.declared.answer.Fetch.{Fetch}
use Rattle.lv_outside.specs.declared.answer.Fetch.TheVariants.{Got, Absent, TooLong, Failed, NoMemory}

-- the bytes at each path, where there is a file
abbrev pub Files : Type 0
Files = List ℕ → Option (List ℕ)

-- what an answer says of the file and of the bytes that were read
abbrev pub ReadGives : Option (List ℕ) → ℕ → Fetch → List ℕ → Type 0
ReadGives file most Got bytes = (file ≡ Some bytes) × (length bytes ≤ most)
ReadGives file most Absent bytes = file ≡ None
ReadGives file most TooLong bytes = (long : List ℕ) × (file ≡ Some long) × (most < length long)
ReadGives file most Failed bytes = Unit {0}
ReadGives file most NoMemory bytes = Unit {0}

-- the path now holds the bytes, and every other path what it held
pub record Holds (old new : Files) (path bytes : List ℕ) : Type 0 where
  pub here : new path ≡ Some bytes
  pub others : (q : List ℕ) → q ≢ path → new q ≡ old q
