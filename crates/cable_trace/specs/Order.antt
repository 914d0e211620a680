-- The order of tickets: what those of a ring's sender and of its taker say of each other.
use Rattle.std.specs.Prelude.{◌≡◌, ℕ, nat_lt, ◌+◌, ◌<◌, ◌≤◌, List, length, All, count_by}

-- how many of these tickets are below a number
unfoldable pub below : ℕ → List ℕ → ℕ
below number tickets = count_by (λ ticket. nat_lt ticket number) tickets

-- By tickets, of a ring with so many cells: all that the sender drew, those of its sends, its refusals with the number that it saw taken;
-- all that the taker drew, its looks with the number that they saw sent, those of its takes.
pub record InOrder (cells : ℕ) (drawn sends : List ℕ) (refusals : List (ℕ × ℕ)) (asked : List ℕ) (looks : List (ℕ × ℕ)) (takes : List ℕ) : Type 0 where
  -- a take has its send before it
  pub paired : All (λ ticket. below ticket takes < below ticket sends) takes
  -- where a sender draws, at most one message more than the ring has cells is sent and not taken
  pub roomy : All (λ ticket. below ticket sends ≤ below ticket takes + cells + 1) drawn
  -- where a ring is found full, at least as many messages as it has cells are sent and not taken
  pub full : All (λ refusal. (below refusal.0 takes ≤ refusal.1) × (below refusal.0 sends ≡ refusal.1 + cells)) refusals
  -- a look has seen each send before which the sender drew nothing but what lies before the look
  pub at_least : All (λ look. All (λ ticket. ticket < look.0 → below ticket sends ≤ look.1) drawn) looks
  -- a look has seen no send after which the taker has drawn again
  pub at_most : All (λ look. All (λ ticket. look.0 < ticket → look.1 ≤ below ticket sends) asked) looks
  -- a look has seen no more than was sent
  pub in_all : All (λ look. look.1 ≤ length sends) looks
