-- Lists, one for each number below a count, one after the other.
use Rattle.std.specs.Prelude.{ℕ, zero, suc, List, [], ◌++◌}

-- f 0, then f 1, and so on, up to n
abbrev pub each : {X : Type 0} → ℕ → (ℕ → List X) → List X
each zero f = []
each (suc n) f = each n f ++ f n
