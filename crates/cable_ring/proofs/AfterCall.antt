-- What a seat is after the steps of a call.
use Rattle.std.proofs.Common.{◌≡◌, ℕ, suc, ◌+◌, ◌^◌, ◌<◌, ◌≤◌, List, [], ◌∷◌, ◌++◌, map, length, Option, Some, None, refl, sym, ap, subst, ◌∙◌, length-append, arith}
use Rattle.std.proofs.lemmas.List.{length-map}
use Rattle.std.specs.List.{All}
use Rattle.atomic_table.specs.declared.shared.Seat.{Seat}
use Rattle.cable_trace.specs.declared.trace.Action.{Action}
use Rattle.cable_trace.specs.declared.trace.Event.{Event}
use Rattle.cable_trace.specs.declared.trace.Pending.{Pending}
use Rattle.cable_trace.specs.declared.trace.Pending.TheVariants.{Idle, Drew}
use Rattle.cable_trace.specs.declared.trace.Trace.{Trace}
use Rattle.cable_trace.specs.Trace.{taken_before_ticket, drawn, taken, moved}
use Rattle.cable_trace.specs.Step.{with_pending, with_event}
use Rattle.cable_ring.specs.declared.pass.Count.{Count}
use Rattle.cable_ring.specs.declared.view.RingSpec.{RingSpec}
use Rattle.cable_ring.specs.declared.view.Acting.{Acting}
use Rattle.cable_ring.proofs.CellSteps.{at-lt}
use Rattle.cable_ring.proofs.Allowed.{sender_there, taker_there}
use Rattle.cable_ring.specs.declared.view.View.{View}
use Rattle.cable_ring.specs.declared.view.View.TheVariants.{Actor}
use Rattle.cable_ring.specs.Seats.{acting_of}
use Rattle.cable_ring.specs.Rule.{head_word, tail_word}
use Rattle.cable_ring.specs.Steps.{Seated, At, trace_of, going_on, IsNewTicket, drew, FoundHead, saw_head, FoundTail, saw_tail, FoundCell, saw_cell}
use Rattle.cable_ring.specs.Passes.{PassView, trace_at, seated, noted, IsNext, HasLeft, pass_at, IsResting, IsSized, AreCounts, sender_at, taker_at}

module _ {M : Type 0} where
  -- the seat of an actor that is in the midst of something
  abbrev pub amid : PassView M → Pending M → List (ℕ × Option M) → Seated M
  amid pass pending cells = (Actor (record { actor = pass.actor; plan = pass.plan; trace = record { events = pass.events; pending = pending } }), cells)

  abbrev pub acting_amid : PassView M → Pending M → Acting M
  acting_amid pass pending = record { actor = pass.actor; plan = pass.plan; trace = record { events = pass.events; pending = pending } }

  -- how many tickets an actor at rest has drawn
  pub drawn_count : (pass : PassView M) → HasLeft 1 pass → length (drawn (trace_at pass)) < 2 ^ 56
  drawn_count pass left = let tickets : List ℕ = map (λ event. event.ticket) pass.events in
      omega (arith, length-append tickets [], length-map pass.events (λ (event : Event M). event.ticket))

  -- what an actor at rest has taken has left the ring
  pub moved_count : (ring : ℕ) (events : List (Event M)) (pending : Pending M) → taken_before_ticket ring pending ≡ []
      → length (moved ring (record { events = events; pending = pending })) ≡ length (taken ring (record { events = events; pending = Idle }))
  moved_count ring events pending none = let pairs : List (ℕ × M) = taken ring (record { events = events; pending = Idle }) in
      ap (λ l. length (map (λ (pair : ℕ × M). pair.1) pairs ++ l)) none ∙ length-append (map (λ (pair : ℕ × M). pair.1) pairs) [] ∙ plus-zero (length (map (λ (pair : ℕ × M). pair.1) pairs))
      ∙ length-map pairs (λ (pair : ℕ × M). pair.1)
    where
      plus-zero : (n : ℕ) → n + length {A = M} [] ≡ n
      plus-zero n = omega arith

  -- a number above the tickets of the seat's actor is above those of its token
  pub is_next : (seat : Seat (Option M) (View M)) (ticket : ℕ) → IsResting seat → IsNewTicket ticket (trace_of seat.me) → IsNext ticket (pass_at seat)
  is_next seat ticket rest new = subst (IsNewTicket ticket) (ap trace_of rest) new

  -- a seat after a step
  pub steps_amid : (me now : Seated M) (pass : PassView M) (old new : Pending M) (before : List (ℕ × Option M)) → me ≡ amid pass old before
      → now ≡ going_on me (with_pending (trace_of me) new) me.1 → now ≡ amid pass new before
  steps_amid me now pass old new before is step = step ∙ ap (λ (m : Seated M). going_on m (with_pending (trace_of m) new) m.1) is

  -- a seat after the last step of a call
  module _ (old now : Seat (Option M) (View M)) (ticket : ℕ) (action : Action M) (table : now.table_id ≡ old.table_id) where
    abbrev Resting : Seated M
    Resting = (Actor (record { actor = (pass_at old).actor; plan = (pass_at old).plan; trace = with_event (trace_at (pass_at old)) ticket action }), [])

    pub is_noted : now.me ≡ Resting → pass_at now ≡ noted (pass_at old) ticket action
    is_noted e = λ i. record { table = table i; actor = (acting_of (e i).0).actor; plan = (acting_of (e i).0).plan; events = (acting_of (e i).0).trace.events }

    pub is_resting : now.me ≡ Resting → IsResting now
    is_resting e = e ∙ sym (ap (λ (m : Seated M). (Actor (record { actor = (acting_of m.0).actor; plan = (acting_of m.0).plan; trace = record { events = (acting_of m.0).trace.events; pending = Idle } }), [])) e)

  -- what a load after a draw finds
  module _ (pass : PassView M) (ring ticket : ℕ) (first then : At M) (me drawn-me now : Seated M) (rest : me ≡ seated pass) (drawing : drew first me ticket drawn-me) where
    pub drew_amid : drawn-me ≡ amid pass (Drew ticket) []
    drew_amid = steps_amid me drawn-me pass Idle (Drew ticket) [] rest drawing.1

    pub head_found : (seen : ℕ) → then.word ≡ head_word ring → saw_head then drawn-me seen now → FoundHead (amid pass (Drew ticket) []) seen now ring ticket
    head_found seen w saw = subst (λ (m : Seated M). FoundHead m seen now ring ticket) drew_amid (saw ring ticket w (ap (λ (m : Seated M). (trace_of m).pending) drew_amid))

    pub tail_found : (tail : ℕ) → then.word ≡ tail_word ring → saw_tail then drawn-me tail now → FoundTail (amid pass (Drew ticket) []) tail now ring ticket
    tail_found tail w saw = subst (λ (m : Seated M). FoundTail m tail now ring ticket) drew_amid (saw ring ticket w (ap (λ (m : Seated M). (trace_of m).pending) drew_amid))

  -- what the load of a taker finds
  pub cell_found : (pass : PassView M) (ring : ℕ) (then : At M) (head : ℕ) (me now : Seated M) → me ≡ seated pass → then.word ≡ head_word ring → saw_cell then me head now → FoundCell (seated pass) now ring
  cell_found pass ring then head me now rest w saw = subst (λ (m : Seated M). FoundCell m now ring) rest (saw ring w)

  -- the token after a call
  module _ (pass now : PassView M) (ticket : ℕ) (action : Action M) (e : now ≡ noted pass ticket action) where
    pub sized_after : IsSized pass → IsSized now
    sized_after h = subst (λ (p : PassView M). IsSized p) (sym e) (record { limits = h.limits; words = h.words; slots = h.slots })

    pub cells_after : (cells : ℕ) → cells ≡ pass.plan.cells → cells ≡ now.plan.cells
    cells_after cells h = subst (λ (p : PassView M). cells ≡ p.plan.cells) (sym e) h

    pub left_after : (left less : ℕ) → left + length pass.events ≡ 2 ^ 56 → less + 1 ≡ left → less + length now.events ≡ 2 ^ 56
    left_after left less h l = subst (λ (p : PassView M). less + length p.events ≡ 2 ^ 56) (sym e) (omega (arith, h, l, length-append pass.events (record { ticket = ticket; action = action } ∷ [])))

    pub counts_after : (counts : List Count) → AreCounts counts (noted pass ticket action) → AreCounts counts now
    counts_after counts h = subst (λ (p : PassView M). AreCounts counts p) (sym e) h

-- an actor that sends on a ring, or takes from it, has a ring of that number
pub sender-lt : (rings : List RingSpec) (ring a : ℕ) → sender_at rings ring ≡ suc a → ring < length rings
sender-lt rings ring a e = let there = sender_there rings ring a e in at-lt rings ring there.0 there.1

pub taker-lt : (rings : List RingSpec) (ring a : ℕ) → taker_at rings ring ≡ suc a → ring < length rings
taker-lt rings ring a e = let there = taker_there rings ring a e in at-lt rings ring there.0 there.1
