-- What holds of a ring at any time, between the trace of its sender and that of its taker. The two may be one actor's.
use Rattle.std.specs.Prelude.{◌≡◌, ℕ, ◌+◌, ◌≤◌, List, ◌++◌, length, map}
use Rattle.cable_trace.specs.declared.trace.Trace.{Trace}
use Rattle.cable_trace.specs.Trace.{drawn, sent, refused, looks, taken, shown, moved}
use Rattle.cable_trace.specs.Order.{InOrder}

-- a list is the beginning of another
pub record Begins {M : Type 0} (first whole : List M) : Type 0 where
  pub rest : List M
  pub is : whole ≡ first ++ rest

-- tickets and messages of pairs
abbrev pub tickets : {M : Type 0} → List (ℕ × M) → List ℕ
tickets = map (λ pair. pair.0)

abbrev pub messages : {M : Type 0} → List (ℕ × M) → List M
messages = map (λ pair. pair.1)

-- What was moved out is the beginning of what was shown, and that of what was sent; no more is sent and not moved out than there are
-- cells; and the tickets are in order.
pub record RingHolds {M : Type 0} (cells ring : ℕ) (sender taker : Trace M) : Type 0 where
  pub shows : Begins (shown ring taker) (messages (sent ring sender))
  pub moves : Begins (moved ring taker) (shown ring taker)
  pub room : length (sent ring sender) ≤ length (moved ring taker) + cells
  pub order : InOrder cells (drawn sender) (tickets (sent ring sender)) (refused ring sender) (drawn taker) (looks ring taker) (tickets (taken ring taker))
