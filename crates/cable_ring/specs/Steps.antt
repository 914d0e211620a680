-- What each step on the table tells its caller.
use Rattle.std.specs.Prelude.{◌≡◌, ℕ, ◌+◌, ◌<◌, ◌≤◌, List, [], ◌∷◌, ◌++◌, length, All, Option, Some, None}
use mathlib.Core.Option.{some}
use lib.ListN.{get_elem?}
use Rattle.atomic_table.specs.Table.{Me, Step, rest}
use Rattle.cable_trace.specs.declared.trace.Action.{Action}
use Rattle.cable_trace.specs.declared.trace.Action.TheVariants.{Marked, Sent, Refused, Looked, Taken, Stored, Loaded}
use Rattle.cable_trace.specs.declared.trace.Pending.{Pending}
use Rattle.cable_trace.specs.declared.trace.Pending.TheVariants.{Idle, Drew, Putting, Fetching, Took}
use Rattle.cable_trace.specs.declared.trace.Trace.{Trace}
use Rattle.cable_trace.specs.Trace.{drawn, sent, shown, moved}
use Rattle.cable_trace.specs.Step.{fresh, with_pending, with_event}
use Rattle.cable_ring.specs.declared.view.Plan.{Plan}
use Rattle.cable_ring.specs.declared.view.Acting.{Acting}
use Rattle.cable_ring.specs.declared.view.View.{View}
use Rattle.cable_ring.specs.declared.view.View.TheVariants.{Desk, Actor, Spent}
use Rattle.cable_ring.specs.Seats.{acting_of, with_trace}
use Rattle.cable_ring.specs.Cells.{slot}
use Rattle.cable_ring.specs.Rule.{head_word, tail_word}

-- what a seat knows, and the cells that it has
abbrev pub Seated : Type 0 → Type 0
Seated M = Me (Option M) (View M)

abbrev pub At : Type 0 → Type 0
At M = Step (Option M)

module _ {M : Type 0} where
  -- the trace of a seat's actor
  abbrev pub trace_of : Seated M → Trace M
  trace_of me = (acting_of me.0).trace

  -- the seat after a step: its actor's trace, and the cells that it has
  abbrev pub going_on : Seated M → Trace M → List (ℕ × Option M) → Seated M
  going_on me trace cells = (with_trace (acting_of me.0) trace, cells)

  -- a number is above all tickets of an actor
  abbrev pub IsNewTicket : ℕ → Trace M → Type 0
  IsNewTicket ticket trace = All (λ t. t < ticket) (drawn trace)

  -- a ticket is drawn for what the actor does next
  abbrev pub drew : At M → Seated M → ℕ → Seated M → Type 0
  drew step me ticket new = IsNewTicket ticket (trace_of me) × (new ≡ going_on me (with_pending (trace_of me) (Drew ticket)) me.1)

  -- a ticket is drawn for something away from the rings
  abbrev pub marked : At M → Seated M → ℕ → Seated M → Type 0
  marked step me ticket new = IsNewTicket ticket (trace_of me) × (new ≡ going_on me (with_event (trace_of me) ticket Marked) me.1)

  -- a ticket is drawn for a take
  abbrev pub took : At M → Seated M → ℕ → Seated M → Type 0
  took step me ticket new = (ring : ℕ) (message : M) → (trace_of me).pending ≡ Took ring message
      → IsNewTicket ticket (trace_of me) × (new ≡ going_on me (with_event (trace_of me) ticket (Taken ring message)) me.1)

  -- the sender loads the head of a ring: it finds the ring full, or has the cell at the tail from then on
  abbrev pub FoundHead : Seated M → ℕ → Seated M → ℕ → ℕ → Type 0
  FoundHead me seen new ring ticket = (seen ≤ length (sent ring (trace_of me))) × (length (sent ring (trace_of me)) ≤ seen + (acting_of me.0).plan.cells)
      × (length (sent ring (trace_of me)) ≡ seen + (acting_of me.0).plan.cells → new ≡ going_on me (with_event (trace_of me) ticket (Refused ring seen)) me.1)
      × (length (sent ring (trace_of me)) < seen + (acting_of me.0).plan.cells
      → new ≡ going_on me (with_pending (trace_of me) (Putting ring ticket seen)) ((slot (acting_of me.0).plan.cells ring (length (sent ring (trace_of me))), None) ∷ me.1))

  abbrev pub saw_head : At M → Seated M → ℕ → Seated M → Type 0
  saw_head step me seen new = (ring ticket : ℕ) → step.word ≡ head_word ring → (trace_of me).pending ≡ Drew ticket → FoundHead me seen new ring ticket

  -- the sender stores the tail of a ring, and gives the cell with the message back
  abbrev pub stored_tail : At M → Seated M → ℕ → Seated M → Type 0
  stored_tail step me tail new = (ring ticket seen place : ℕ) (message : M) → (trace_of me).pending ≡ Putting ring ticket seen → me.1 ≡ (place, Some message) ∷ []
      → new ≡ going_on me (with_event (trace_of me) ticket (Sent ring seen message)) []

  -- the taker loads the tail of a ring: all that was sent is shown
  abbrev pub FoundTail : Seated M → ℕ → Seated M → ℕ → ℕ → Type 0
  FoundTail me tail new ring ticket = (messages : List M) × (new ≡ going_on me (with_event (trace_of me) ticket (Looked ring tail messages)) me.1)
      × (tail ≡ length (shown ring (trace_of me)) + length messages) × (length (moved ring (trace_of me)) ≤ tail) × (tail ≤ length (moved ring (trace_of me)) + (acting_of me.0).plan.cells)

  abbrev pub saw_tail : At M → Seated M → ℕ → Seated M → Type 0
  saw_tail step me tail new = (ring ticket : ℕ) → step.word ≡ tail_word ring → (trace_of me).pending ≡ Drew ticket → FoundTail me tail new ring ticket

  -- the taker loads the head of a ring, which it alone stores, and has the cell there from then on
  abbrev pub FoundCell : Seated M → Seated M → ℕ → Type 0
  FoundCell me new ring = (message : M) × (get_elem? (shown ring (trace_of me)) (length (moved ring (trace_of me))) ≡ some message)
      × (new ≡ going_on me (with_pending (trace_of me) (Fetching ring message))
      ((slot (acting_of me.0).plan.cells ring (length (moved ring (trace_of me))), Some message) ∷ me.1))

  abbrev pub saw_cell : At M → Seated M → ℕ → Seated M → Type 0
  saw_cell step me head new = (ring : ℕ) → step.word ≡ head_word ring → FoundCell me new ring

  -- the taker stores the head of a ring, and gives the cell back empty
  abbrev pub stored_head : At M → Seated M → ℕ → Seated M → Type 0
  stored_head step me head new = (ring : ℕ) (message : M) → (trace_of me).pending ≡ Fetching ring message
      → new ≡ going_on me (with_pending (trace_of me) (Took ring message)) (rest me.1)

  -- the beat is stored
  abbrev pub stored_beat : At M → Seated M → ℕ → Seated M → Type 0
  stored_beat step me number new = (ticket : ℕ) → (trace_of me).pending ≡ Drew ticket
      → new ≡ going_on me (with_event (trace_of me) ticket (Stored number)) me.1

  -- the beat is loaded
  abbrev pub saw_beat : At M → Seated M → ℕ → Seated M → Type 0
  saw_beat step me number new = (ticket : ℕ) → (trace_of me).pending ≡ Drew ticket
      → new ≡ going_on me (with_event (trace_of me) ticket (Loaded number)) me.1

  -- the desk hands out the seat of the next actor
  abbrev pub handed_out : View M → View M
  handed_out (Desk plan dealt gathered) = Desk plan (dealt + 1) gathered
  handed_out view = view

  abbrev pub next_actor : View M → View M
  next_actor (Desk plan dealt gathered) = Actor (record { actor = dealt; plan = plan; trace = fresh })
  next_actor view = Spent

  -- the desk gathers the trace of an actor
  abbrev pub gathered_with : View M → View M → View M
  gathered_with (Desk plan dealt gathered) (Actor acting) = Desk plan dealt (gathered ++ acting.trace ∷ [])
  gathered_with view other = view
