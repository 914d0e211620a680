-- The rule of the table: what holds of the words, the cells and all traces between any two steps.
use Rattle.std.specs.Prelude.{◌≡◌, ℕ, ◌+◌, ◌*◌, ◌^◌, ◌<◌, ◌≤◌, List, [], length, Option, slice_index}
use mathlib.Core.Option as maybe
use mathlib.Core.Option.{some}
use lib.ListN.{get_elem?}
use Rattle.atomic_table.specs.Table.{State}
use Rattle.cable_trace.specs.declared.trace.Trace.{Trace}
use Rattle.cable_trace.specs.Trace.{drawn, sent, shown, moved}
use Rattle.cable_trace.specs.Ring.{messages, RingHolds}
use Rattle.cable_trace.specs.Beat.{stores, IsLast, BeatHolds}
use Rattle.cable_ring.specs.declared.view.RingSpec.{RingSpec}
use Rattle.cable_ring.specs.declared.view.Plan.{Plan}
use Rattle.cable_ring.specs.declared.view.View.{View}
use Rattle.cable_ring.specs.Seats.{AreSeated}
use Rattle.cable_ring.specs.Drawn.{AreTickets}
use Rattle.cable_ring.specs.Cells.{putting, fetching, AreCells}
use Rattle.cable_ring.specs.Ends.{DidOwn}

-- Word 0 is the counter of tickets and word 8 the beat. Then come the head and the tail of each ring: how many messages were taken, and how many
-- sent. Each of them has a line of 64 bytes to itself, so that threads which write different ones don't wait for each other's line.
abbrev pub head_word : ℕ → ℕ
head_word ring = 16 * ring + 16

abbrev pub tail_word : ℕ → ℕ
tail_word ring = 16 * ring + 24

-- a cable has 1 to 64 cells in each ring, at most 16 actors, and a first ticket below 2^60
pub record IsPlan (plan : Plan) : Type 0 where
  pub first : plan.first < 2 ^ 60
  pub some_cell : 0 < plan.cells
  pub cells : plan.cells ≤ 64
  pub actors : plan.actors ≤ 16
  pub rings : length plan.rings < 2 ^ 32

-- What holds of a ring, between the trace of its sender and that of its taker.
pub record IsRing {M : Type 0} (cells ring head tail : ℕ) (homes : List (maybe.Option (Option M))) (sender taker : Trace M) : Type 0 where
  pub holds : RingHolds cells ring sender taker
  pub head_is : head ≡ length (moved ring taker)
  pub tail_is : tail ≡ length (sent ring sender)
  pub lie : AreCells cells ring head tail homes (messages (sent ring sender)) (putting ring sender.pending) (shown ring taker) (fetching ring taker.pending)

-- What holds of the beat, which actor 0 stores and actor 1 loads.
pub record IsBeat {M : Type 0} (number : ℕ) (writer reader : Trace M) : Type 0 where
  pub holds : BeatHolds writer reader
  pub last : IsLast number (stores writer)

-- There is a trace of each actor by which all holds.
pub record IsCable {M : Type 0} (plan : Plan) (s : State (Option M) (View M)) : Type 0 where
  pub traces : ℕ → Trace M
  pub limits : IsPlan plan
  pub words : length s.words ≡ 16 * length plan.rings + 16
  pub slots : length s.homes ≡ length plan.rings * plan.cells
  pub seated : AreSeated plan traces s.views
  pub tickets : AreTickets plan.first plan.actors (slice_index s.words 0) (λ actor. drawn (traces actor))
  pub own : (actor : ℕ) → DidOwn plan.rings actor (traces actor)
  pub rings : (ring : ℕ) (spec : RingSpec) → get_elem? plan.rings ring ≡ some spec
      → IsRing plan.cells ring (slice_index s.words (head_word ring)) (slice_index s.words (tail_word ring)) s.homes (traces spec.from) (traces spec.to)
  pub beat : IsBeat (slice_index s.words 8) (traces 0) (traces 1)
