-- The events of atom ports (LV2 atom: Sequence, whose times are frames here).
use Rattle.std.specs.Prelude.{◌≡◌, ℕ, ℤ, pos, ◌≤ℤ◌, ◌<ℤ◌, List, [], length}
use Rattle.atom_core.specs.Value.{Parts, Lead, none, part, timed, bare, keyed, holding, sequence}
use Rattle.atom_core.specs.Atoms.{SpellEvents}
use Rattle.atom_core.specs.Answer.{Spells}
use Rattle.atom_forge.specs.Forged.{Forged}

-- the time of an event is from here on
abbrev pub IsFrom : ℤ → Lead → Type 0
IsFrom from (timed time) = from ≤ℤ time
IsFrom from bare = ⊥
IsFrom from (keyed key context) = ⊥

-- it is within so many frames
abbrev pub IsWithin : ℕ → Lead → Type 0
IsWithin frames (timed time) = time <ℤ pos frames
IsWithin frames bare = ⊥
IsWithin frames (keyed key context) = ⊥

-- when it is
abbrev pub time_of : Lead → ℤ
time_of (timed time) = time
time_of bare = pos 0
time_of (keyed key context) = pos 0

-- the times don't fall from here on, and lie in the block
abbrev pub AreInOrder : ℤ → ℕ → Parts → Type 0
AreInOrder from frames none = Unit {0}
AreInOrder from frames (part lead value parts) = IsFrom from lead × IsWithin frames lead × AreInOrder (time_of lead) frames parts

-- the bytes are those of events whose times don't fall and lie in the block
abbrev pub AreEventBytes : ℕ → List ℕ → Type 0
AreEventBytes frames bytes = ∥ ((parts : Parts) × SpellEvents bytes parts × AreInOrder (pos 0) frames parts) ∥₁

-- a forge has one finished sequence of such events
pub record IsSequence (frames : ℕ) (forge : Forged) : Type 0 where
  pub closed : forge.levels ≡ []
  pub spelled : ∥ ((parts : Parts) × Spells forge.bytes (holding sequence parts) × AreInOrder (pos 0) frames parts) ∥₁
