-- What callers see of an actor's pass, and what calls do to it.
use Rattle.std.specs.Prelude.{◌≡◌, ℕ, zero, suc, ◌+◌, ◌^◌, ◌<◌, ◌≤◌, List, [], ◌∷◌, ◌++◌, length, All}
use mathlib.Core.Option.{some}
use lib.ListN.{get_elem?}
use Rattle.atomic_table.specs.Seated.{TableId}
use Rattle.cable_trace.specs.declared.trace.Action.{Action}
use Rattle.cable_trace.specs.declared.trace.Event.{Event}
use Rattle.cable_trace.specs.declared.trace.Pending.TheVariants.{Idle}
use Rattle.cable_trace.specs.declared.trace.Trace.{Trace}
use Rattle.cable_trace.specs.Trace.{drawn}
use Rattle.cable_ring.specs.declared.view.RingSpec.{RingSpec}
use Rattle.cable_ring.specs.declared.view.Plan.{Plan}
use Rattle.cable_ring.specs.declared.view.Acting.{Acting}
use Rattle.cable_ring.specs.declared.view.View.TheVariants.{Actor}
use Rattle.cable_trace.specs.Trace.{sent, shown, taken}
use Rattle.atomic_table.specs.declared.shared.Seat.{Seat}
use Rattle.cable_ring.specs.declared.pass.Count.{Count}
use Rattle.cable_ring.specs.declared.view.View.{View}
use Rattle.cable_ring.specs.Seats.{acting_of}
use Rattle.cable_ring.specs.Rule.{IsPlan}
use Rattle.cable_ring.specs.Steps.{Seated, IsNewTicket}
pub use Rattle.cable_ring.specs.Ends.{sender_at, taker_at}
use Rattle.std.specs.Prelude.{Option, ◌*◌}

-- The token of an actor: of which table and plan it is, and what the actor did. Between calls nothing is pending.
pub record PassView (M : Type 0) : Type 0 where
  pub table : TableId
  pub actor : ℕ
  pub plan : Plan
  pub events : List (Event M)

module _ {M : Type 0} where
  abbrev pub trace_at : PassView M → Trace M
  trace_at pass = record { events = pass.events; pending = Idle }

  -- the seat of the table that the token stands for
  abbrev pub seated : PassView M → Seated M
  seated pass = (Actor (record { actor = pass.actor; plan = pass.plan; trace = trace_at pass }), [])

  -- the token after one more event
  abbrev pub noted : PassView M → ℕ → Action M → PassView M
  noted pass ticket action = record { table = pass.table; actor = pass.actor; plan = pass.plan; events = pass.events ++ record { ticket = ticket; action = action } ∷ [] }

  -- a number is above all tickets that an actor drew
  abbrev pub IsNext : ℕ → PassView M → Type 0
  IsNext ticket pass = IsNewTicket ticket (trace_at pass)

  -- how many tickets an actor may still draw
  abbrev pub HasLeft : ℕ → PassView M → Type 0
  HasLeft n pass = n + length pass.events ≤ 2 ^ 56

module _ {M : Type 0} where
  -- the token that a seat of the table stands for
  abbrev pub pass_at : Seat (Option M) (View M) → PassView M
  pass_at seat = record { table = seat.table_id; actor = (acting_of seat.me.0).actor; plan = (acting_of seat.me.0).plan; events = (acting_of seat.me.0).trace.events }

  -- the seat is an actor's, nothing is pending, and it has no cell
  abbrev pub IsResting : Seat (Option M) (View M) → Type 0
  IsResting seat = seat.me ≡ seated (pass_at seat)

  -- the table has the words and the cells of the plan
  pub record IsSized (pass : PassView M) : Type 0 where
    pub limits : IsPlan pass.plan
    pub words : pass.table.words ≡ 16 * length pass.plan.rings + 16
    pub slots : pass.table.slots ≡ length pass.plan.rings * pass.plan.cells

  -- an actor's numbers of each ring are those of its trace
  pub record AreCounts (counts : List Count) (pass : PassView M) : Type 0 where
    pub long : length counts ≡ length pass.plan.rings
    pub sent_is : (ring : ℕ) (count : Count) → get_elem? counts ring ≡ some count → count.sent ≡ length (sent ring (trace_at pass))
    pub shown_is : (ring : ℕ) (count : Count) → get_elem? counts ring ≡ some count → count.shown ≡ length (shown ring (trace_at pass))
    pub taken_is : (ring : ℕ) (count : Count) → get_elem? counts ring ≡ some count → count.taken ≡ length (taken ring (trace_at pass))
    -- it has taken no more than it was shown
    pub behind : (ring : ℕ) (count : Count) → get_elem? counts ring ≡ some count → count.taken ≤ count.shown
