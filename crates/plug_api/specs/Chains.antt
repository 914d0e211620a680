-- Attempts of a scheduler, one after another.
use Rattle.std.specs.Prelude.{ℕ, List, [], ◌++◌}
use Rattle.interaction.specs.Attempts.{Attempt}

-- A scheduler is the same after no attempts, and attempts in a row are those of both parts.
pub record ChainsAttempts {S : Type 0} (went : S → List Attempt → S → Type 0) : Type 0 where
  pub none : (s : S) → went s [] s
  pub more : (s t u : S) (first then : List Attempt) → went s first t → went t then u → went s (first ++ then) u
