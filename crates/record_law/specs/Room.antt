-- What sends, refusals and takes need of a ring.
use Rattle.std.specs.Prelude.{ℕ, ◌+◌, nat_lt, nat_le, Bool, true}
use Rattle.step_law.specs.declared.entry.Kind.{Kind}
use Rattle.step_law.specs.declared.entry.Kind.TheVariants.{Take, Send, Full}
use Rattle.step_law.specs.Ring.{ring_at}
use Rattle.record_law.specs.declared.shape.Shape.{Shape}
use Rattle.record_law.specs.Message.{History}
use Rattle.record_law.specs.History.{waiting}

-- a take has an untaken message before it
abbrev pub finds_message : History → Kind → ℕ → Bool
finds_message h Take ring = nat_lt 0 (waiting (ring_at ring) h)
finds_message h kind a = true

-- a ring is found full only where at least as many messages as it has cells are sent and not taken
abbrev pub is_really_full : Shape → History → Kind → ℕ → Bool
is_really_full s h Full ring = nat_le s.cells (waiting (ring_at ring) h)
is_really_full s h kind a = true

-- A send needs that at most one more is. A cell that was given back counts as taken only at its take's entry, which comes a step later, so
-- a sender may see room for more than the record shows.
abbrev pub has_room : Shape → History → Kind → ℕ → Bool
has_room s h Send ring = nat_le (waiting (ring_at ring) h) (s.cells + 1)
has_room s h kind a = true
