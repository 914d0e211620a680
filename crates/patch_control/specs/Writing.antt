-- What a forge holds while a message is written. No public clause rests on it.
use Rattle.std.specs.Prelude.{◌≡◌, ◌<◌, ◌≤◌, false, List, ℕ, ◌++◌, length, Result, MatchResult}
use Rattle.atom_core.specs.Value.{Lead, Value, Parts}
use Rattle.atom_core.specs.Spelling.{atom_of, part_of, parts_of}
use Rattle.atom_forge.specs.declared.level.Level.{Level}
use Rattle.atom_forge.specs.declared.room.NoRoom.{NoRoom}
use Rattle.atom_forge.specs.Forged.{Forged, left, with_piece}

-- more was written after what a forge held, and perhaps more containers are open
pub record Extends (old new : Forged) : Type 0 where
  pub bytes : List ℕ
  pub levels : List Level
  pub room_is : new.room ≡ old.room
  pub bytes_are : new.bytes ≡ old.bytes ++ bytes
  pub levels_are : new.levels ≡ old.levels ++ levels

-- some bytes are put whole, or there is no room for them
abbrev pub Tries : Forged → List ℕ → Result (Unit {0}) NoRoom → Forged → Type 0
Tries old bytes result new =
    MatchResult result (λ _. (length bytes ≤ left old) × (new ≡ with_piece old bytes false)) (λ _. (left old < length bytes) × Extends old new)

abbrev pub TriesPart : Forged → Lead → Value → Result (Unit {0}) NoRoom → Forged → Type 0
TriesPart old lead value result new = Tries old (part_of lead value) result new

abbrev pub TriesParts : Forged → Parts → Result (Unit {0}) NoRoom → Forged → Type 0
TriesParts old parts result new = Tries old (parts_of parts) result new

abbrev pub TriesObject : Forged → Value → Result (Unit {0}) NoRoom → Forged → Type 0
TriesObject old value result new = Tries old (atom_of value) result new
