-- How far control has seen audio to be.
use Rattle.std.specs.Prelude.{◌≡◌, ℕ, nat_le, max, Bool, false, Option, Some, None}
use Rattle.record_law.specs.Control.{has_reached}
use Rattle.record_law.specs.Message.{History}

-- a block is reached
abbrev pub is_reached : Option ℕ → ℕ → Bool
is_reached None block = false
is_reached (Some progress) block = nat_le block progress

-- the progress is what control's own steps have seen
abbrev pub IsProgress : Option ℕ → History → Type 0
IsProgress progress h = (block : ℕ) → has_reached block h ≡ is_reached progress block

-- the progress with what is seen now
abbrev pub further : Option ℕ → ℕ → ℕ
further None seen = seen
further (Some before) seen = max before seen
