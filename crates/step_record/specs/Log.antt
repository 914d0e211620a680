-- What an actor did, each entry with its ticket, and what marks it.
use Rattle.std.specs.Prelude.{◌≡◌, ℕ, ◌-◌, ◌<◌, List, [], ◌∷◌, ◌++◌}
use Rattle.std.specs.List.{All}
use Rattle.step_law.specs.declared.entry.Entry.{Entry}
use Rattle.step_record.specs.Tickets.{Draws}

-- the entries with their tickets, in order, and for how many more there is room
pub record Logged : Type 0 where
  pub items : List (ℕ × Entry)
  pub spare : ℕ

-- a log with one more entry
abbrev pub with_entry : Logged → ℕ → Entry → Logged
with_entry log ticket entry = record { items = log.items ++ (ticket, entry) ∷ []; spare = log.spare - 1 }

-- A pen marks an entry: it draws a ticket above all that were drawn, and puts the entry with it.
pub record Writes {S R : Type 0} (left : S → ℕ) (drawn : S → List ℕ) (rest : S → R) (old : S) (log : Logged) (entry : Entry) (ticket : ℕ) (new : S) (logged : Logged) : Type 0 where
  pub draws : Draws left drawn rest old (ticket ∷ []) new
  pub above : All (λ t. t < ticket) (drawn old)
  pub puts : logged ≡ with_entry log ticket entry
