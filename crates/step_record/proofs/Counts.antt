-- The tickets of a counter lie below its next one.
use Rattle.std.proofs.Common.{ℕ, zero, suc, ◌+◌, ◌<◌, ◌≤◌, arith}
use Rattle.std.specs.List.{All}
use Rattle.std.proofs.lemmas.List.Elements.{All-nil, All-push}
use Rattle.step_record.specs.Count.{numbers_from}

-- so many numbers from one on are below what bounds their end
pub numbers-below : (first n bound : ℕ) → first + n ≤ bound → All (λ t. t < bound) (numbers_from first n)
numbers-below first zero bound h = All-nil (λ t. t < bound)
numbers-below first (suc n) bound h = All-push (λ t. t < bound) (numbers_from first n) (first + n) (numbers-below first n bound (omega arith)) (omega arith)
