-- What is counted of each ring.
use Rattle.std.specs.Prelude.{◌≡◌, ℕ, ◌+◌, ◌*◌, ◌<◌, ◌^◌, Bool, List, length}
use Rattle.step_law.specs.declared.entry.Kind.TheVariants.{Take, Send}
use Rattle.step_law.specs.Ring.{ring_at}
use Rattle.record_law.specs.declared.shape.Shape.{Shape}
use Rattle.record_law.specs.Message.{History}
use Rattle.record_law.specs.History.{one_more, count, own}
use Rattle.record_law.specs.Shape.{sender}
use Rattle.record_counts.specs.declared.rings.RingCount.{RingCount}
use Rattle.record_counts.specs.Table.{IsTable}

-- the counts of the ring with a number after a history
abbrev pub count_at : Shape → History → ℕ → RingCount
count_at s h ring = record {
  sent = count Send (ring_at ring) h;
  by_sender = count Send (ring_at ring) (own (sender s (ring_at ring)) h);
  taken = count Take (ring_at ring) h;
}

-- one more message is sent, or taken
abbrev pub one_sent : Bool → RingCount → RingCount
one_sent by_sender it = record { sent = it.sent + 1; by_sender = one_more by_sender it.by_sender; taken = it.taken }

abbrev pub one_taken : RingCount → RingCount
one_taken it = record { sent = it.sent; by_sender = it.by_sender; taken = it.taken + 1 }

-- counts that can go on
pub record IsFew (it : RingCount) : Type 0 where
  pub sent : it.sent < 2 ^ 63
  pub by_sender : it.by_sender < 2 ^ 63
  pub taken : it.taken < 2 ^ 63

-- counts of the rings of actors, which have the first 18 numbers, and of those of instances, which have three each
pub record CountsRings (s : Shape) (h : History) (counts : List RingCount) : Type 0 where
  pub each : IsTable (count_at s h) counts
  pub all : length counts ≡ 18 + 3 * length s.insts
