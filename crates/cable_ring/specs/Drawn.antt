-- The tickets that all actors drew from one counter.
use Rattle.std.specs.Prelude.{◌≡◌, ℕ, zero, suc, ◌+◌, ◌^◌, ◌<◌, ◌≤◌, List, length, All, AllPairs, Contains}

-- the sum of the first so many numbers
abbrev pub total : ℕ → (ℕ → ℕ) → ℕ
total zero number = 0
total (suc n) number = total n number + number n

-- The counter is its first number and one for each ticket; an actor's tickets rise, begin at the first and are below the counter; it has drawn
-- at most 2^56 of them, so that the counter never goes round; and no two actors have one ticket.
pub record AreTickets (first actors next : ℕ) (drawn : ℕ → List ℕ) : Type 0 where
  pub counted : next ≡ first + total actors (λ actor. length (drawn actor))
  pub few : (actor : ℕ) → length (drawn actor) ≤ 2 ^ 56
  pub within : (actor : ℕ) → All (λ ticket. (first ≤ ticket) × (ticket < next)) (drawn actor)
  pub rise : (actor : ℕ) → AllPairs (λ earlier later. earlier < later) (drawn actor)
  pub apart : (one other ticket : ℕ) → Contains (drawn one) ticket → Contains (drawn other) ticket → one ≡ other
