-- The law of reading.
use Rattle.std.specs.Prelude.{◌≡◌, ℕ, List}
use Rattle.atom_core.specs.Value.{Value, Parts}
use Rattle.atom_core.specs.Answer.{Spells}
use Rattle.atom_core.specs.Atoms.{SpellEvents}
use Rattle.atom_value.specs.Reading.{value_in, events_in}

-- what bytes spell is what is read off them
pub record SpelledIsRead : Type 0 where
  pub value : (bytes : List ℕ) (value : Value) → Spells bytes value → value_in bytes ≡ value
  pub events : (bytes : List ℕ) (parts : Parts) → SpellEvents bytes parts → events_in bytes ≡ parts
