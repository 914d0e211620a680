-- Each step keeps what holds of a ring. The two traces may be one actor's: then a step of it is first the sender's and then the taker's.
use Rattle.std.specs.Prelude.{◌≡◌, ℕ, ◌+◌, ◌<◌, false, List, [], ◌∷◌, ◌++◌, length}
use Rattle.step_law.specs.declared.entry.Entry.{Entry}
use Rattle.cable_trace.specs.declared.trace.Action.{Action}
use Rattle.cable_trace.specs.declared.trace.Action.TheVariants.{Sent, Refused, Looked, Taken}
use Rattle.cable_trace.specs.declared.trace.Pending.{Pending}
use Rattle.cable_trace.specs.declared.trace.Pending.TheVariants.{Drew, Putting, Fetching, Took}
use Rattle.cable_trace.specs.declared.trace.Trace.{Trace}
use Rattle.cable_trace.specs.Trace.{pending_ticket, taken_before_ticket, drawn, sent, shown, moved, refused, looks, taken}
use Rattle.cable_trace.specs.Step.{fresh, with_pending, with_event, IsAbove, IsAboveSends, IsAboveTakes, SendsNothing, TakesNothing, sends_on, takes_on}
use Rattle.cable_trace.specs.Logs.{IsLogOf, Tells, IsRingOf, IsMergeOf}
use Rattle.cable_trace.specs.Merged.{IsMerged, KeepsRing}
use Rattle.cable_trace.specs.Ring.{Begins, messages, RingHolds}

-- nothing has been done yet
abbrev pub RingBegins : Type 0 → Type 0
RingBegins M = (cells ring : ℕ) → RingHolds {M = M} cells ring fresh fresh

-- what is above all tickets of an actor is above those of a ring
abbrev pub AboveAll : Type 0 → Type 0
AboveAll M = (ring ticket : ℕ) (trace : Trace M) → IsAbove ticket trace → IsAboveSends ring ticket trace × IsAboveTakes ring ticket trace

-- a step of the sender away from the ring: no ticket, or one above all takes and looks
abbrev pub SenderGoesOn : Type 0 → Type 0
SenderGoesOn M = (cells ring : ℕ) (sender taker new : Trace M) → RingHolds cells ring sender taker
    → SendsNothing ring sender new → drawn new ≡ drawn sender → RingHolds cells ring new taker

abbrev pub SenderDraws : Type 0 → Type 0
SenderDraws M = (cells ring ticket : ℕ) (sender taker new : Trace M) → RingHolds cells ring sender taker
    → SendsNothing ring sender new → drawn new ≡ drawn sender ++ ticket ∷ [] → IsAboveTakes ring ticket taker → RingHolds cells ring new taker

-- the sender has drawn a ticket, loads the head and sees that the ring is full
abbrev pub SenderIsRefused : Type 0 → Type 0
SenderIsRefused M = (cells ring ticket seen : ℕ) (sender taker : Trace M) → RingHolds cells ring sender taker
    → sender.pending ≡ Drew ticket → IsAbove ticket sender → seen ≡ length (moved ring taker) → length (sent ring sender) ≡ seen + cells
    → RingHolds cells ring (with_event sender ticket (Refused ring seen)) taker

-- the sender has put the message into its cell and stores the tail
abbrev pub SenderSends : Type 0 → Type 0
SenderSends M = (cells ring ticket seen : ℕ) (message : M) (sender taker : Trace M) → RingHolds cells ring sender taker
    → sender.pending ≡ Putting ring ticket seen → IsAbove ticket sender → length (sent ring sender) < length (moved ring taker) + cells
    → RingHolds cells ring (with_event sender ticket (Sent ring seen message)) taker

-- a step of the taker away from the ring: no ticket, or one above all sends
abbrev pub TakerGoesOn : Type 0 → Type 0
TakerGoesOn M = (cells ring : ℕ) (sender taker new : Trace M) → RingHolds cells ring sender taker
    → TakesNothing ring taker new → drawn new ≡ drawn taker → RingHolds cells ring sender new

abbrev pub TakerDraws : Type 0 → Type 0
TakerDraws M = (cells ring ticket : ℕ) (sender taker new : Trace M) → RingHolds cells ring sender taker
    → TakesNothing ring taker new → drawn new ≡ drawn taker ++ ticket ∷ [] → IsAboveSends ring ticket sender → RingHolds cells ring sender new

-- the taker has drawn a ticket and loads the tail: all that was sent is shown
abbrev pub TakerLooks : Type 0 → Type 0
TakerLooks M = (cells ring ticket count : ℕ) (sender taker : Trace M) → RingHolds cells ring sender taker
    → taker.pending ≡ Drew ticket → IsAbove ticket taker → count ≡ length (sent ring sender)
    → (more : Begins (shown ring taker) (messages (sent ring sender)))
    → RingHolds cells ring sender (with_event taker ticket (Looked ring count more.rest))

-- the taker has moved the next message that was shown out of its cell and stores the head
abbrev pub TakerMoves : Type 0 → Type 0
TakerMoves M = (cells ring : ℕ) (message : M) (sender taker : Trace M) → RingHolds cells ring sender taker
    → taker.pending ≡ Fetching ring message → Begins (moved ring taker ++ message ∷ []) (shown ring taker)
    → RingHolds cells ring sender (with_pending taker (Took ring message))

-- the taker draws the ticket of that take
abbrev pub TakerTakes : Type 0 → Type 0
TakerTakes M = (cells ring ticket : ℕ) (message : M) (sender taker : Trace M) → RingHolds cells ring sender taker
    → taker.pending ≡ Took ring message → IsAboveSends ring ticket sender → IsAbove ticket taker
    → RingHolds cells ring sender (with_event taker ticket (Taken ring message))

-- messages leave a ring as they came, in order and none left out
abbrev pub LeavesInOrder : Type 0 → Type 0
LeavesInOrder M = (cells ring : ℕ) (sender taker : Trace M) → RingHolds cells ring sender taker → Begins (moved ring taker) (messages (sent ring sender))

-- an event that is no send and no refusal on a ring, or no look and no take there, changes nothing on that side of it
abbrev pub EventSendsNothing : Type 0 → Type 0
EventSendsNothing M = (ring ticket : ℕ) (trace : Trace M) (action : Action M) → sends_on ring action ≡ false
    → SendsNothing ring trace (with_event trace ticket action)

abbrev pub EventTakesNothing : Type 0 → Type 0
EventTakesNothing M = (ring ticket : ℕ) (trace : Trace M) (action : Action M) → takes_on ring action ≡ false
    → taken_before_ticket ring trace.pending ≡ [] → TakesNothing ring trace (with_event trace ticket action)

-- what an actor is in the midst of changes nothing on a ring, but for a message that has left it
abbrev pub PendingSendsNothing : Type 0 → Type 0
PendingSendsNothing M = (ring : ℕ) (trace : Trace M) (pending : Pending M) → SendsNothing ring trace (with_pending trace pending)

abbrev pub PendingTakesNothing : Type 0 → Type 0
PendingTakesNothing M = (ring : ℕ) (trace : Trace M) (pending : Pending M) → taken_before_ticket ring pending ≡ taken_before_ticket ring trace.pending
    → TakesNothing ring trace (with_pending trace pending)

-- an event has the ticket that was pending, or a new one
abbrev pub EventUsesTicket : Type 0 → Type 0
EventUsesTicket M = (ticket : ℕ) (trace : Trace M) (action : Action M) → pending_ticket trace.pending ≡ ticket ∷ []
    → drawn (with_event trace ticket action) ≡ drawn trace

abbrev pub EventDrawsTicket : Type 0 → Type 0
EventDrawsTicket M = (ticket : ℕ) (trace : Trace M) (action : Action M) → pending_ticket trace.pending ≡ []
    → drawn (with_event trace ticket action) ≡ drawn trace ++ ticket ∷ []

-- a ticket is drawn first, for what is pending then
abbrev pub PendingDrawsTicket : Type 0 → Type 0
PendingDrawsTicket M = (ticket : ℕ) (trace : Trace M) → pending_ticket trace.pending ≡ []
    → drawn (with_pending trace (Drew ticket)) ≡ drawn trace ++ ticket ∷ []

-- a list of entries that is merged by tickets from what a ring's actors did keeps the ring's rules
abbrev pub MergedKeepsRing : Type 0 → Type 0
MergedKeepsRing M = (cells ring source target : ℕ) (sender taker : Trace M) (marks : List (ℕ × Entry)) → RingHolds cells ring sender taker
    → IsMerged ring source target sender taker marks → KeepsRing cells ring source target marks

-- the merge of logs that agree with the actors' traces agrees with those of each ring's two actors
abbrev pub LogsMerge : Type 0 → Type 0
LogsMerge M = (ring source target : ℕ) (traces : ℕ → Trace M) (logs : ℕ → List (ℕ × Entry)) (marks : List (ℕ × Entry)) → IsRingOf ring source target traces
    → ((actor : ℕ) → IsLogOf ring (traces actor) (logs actor)) → IsMergeOf logs marks → IsMerged ring source target (traces source) (traces target) marks

-- a log agrees with a trace at the start
abbrev pub LogBegins : Type 0 → Type 0
LogBegins M = (ring : ℕ) → IsLogOf {M = M} ring fresh []

-- a step without an entry may draw a ticket, be refused or look, and neither sends nor gives a take its ticket
abbrev pub LogStays : Type 0 → Type 0
LogStays M = (ring : ℕ) (trace new : Trace M) (log : List (ℕ × Entry)) → IsLogOf ring trace log → Begins (drawn trace) (drawn new)
    → sent ring new ≡ sent ring trace → taken ring new ≡ taken ring trace → Begins (refused ring trace) (refused ring new)
    → Begins (looks ring trace) (looks ring new) → IsLogOf ring new log

-- and after each event with the entry that tells of it, whose ticket was pending or is new
abbrev pub LogUsesTicket : Type 0 → Type 0
LogUsesTicket M = (ring ticket : ℕ) (trace : Trace M) (action : Action M) (entry : Entry) (log : List (ℕ × Entry)) → IsLogOf ring trace log → IsAbove ticket trace
    → Tells trace action entry → pending_ticket trace.pending ≡ ticket ∷ [] → IsLogOf ring (with_event trace ticket action) (log ++ (ticket, entry) ∷ [])

abbrev pub LogDrawsTicket : Type 0 → Type 0
LogDrawsTicket M = (ring ticket : ℕ) (trace : Trace M) (action : Action M) (entry : Entry) (log : List (ℕ × Entry)) → IsLogOf ring trace log → IsAbove ticket trace
    → Tells trace action entry → pending_ticket trace.pending ≡ [] → IsLogOf ring (with_event trace ticket action) (log ++ (ticket, entry) ∷ [])
