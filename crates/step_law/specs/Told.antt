-- The event that an entry tells of.
use Rattle.std.specs.Prelude.{ℕ, zero, suc, ◌+◌, if◌then◌else◌, Option, Some, None}
use Rattle.step_law.specs.declared.actor.Actor.{Actor}
use Rattle.step_law.specs.declared.call.Call.{Call}
use Rattle.step_law.specs.declared.entry.Entry.{Entry}
use Rattle.step_law.specs.declared.entry.Kind.{Kind}
use Rattle.step_law.specs.declared.entry.Kind.TheVariants.{Block, Look, Take, Send, Full, Long, Done, Stop, Begin, End, Beat, Join, Late, Last}
use Rattle.step_law.specs.declared.event.Event.{Event}
use Rattle.step_law.specs.declared.event.Event.TheVariants as event
use Rattle.step_law.specs.Actor.{actor_at}
use Rattle.step_law.specs.Call.{call_at}
use Rattle.step_law.specs.Form.{tells}
use Rattle.step_law.specs.Ring.{ring_at}

-- an event whose entry leaves a place 0
abbrev pub if_zero : ℕ → Event → Option Event
if_zero zero told = Some told
if_zero (suc n) told = None

-- a call on an instance, where the call's number is that of one
abbrev pub called : (Call → Event) → Option Call → Option Event
called told None = None
called told (Some call) = Some (told call)

-- the event of an entry's kind and numbers
abbrev pub event_at : Kind → ℕ → ℕ → Option Event
event_at Block a b = if_zero b (event.Block a)
event_at Look a b = Some (event.Look (ring_at a) b)
event_at Take a b = if_zero b (event.Take (ring_at a))
event_at Send a b = if_zero b (event.Send (ring_at a))
event_at Full a b = if_zero b (event.Full (ring_at a))
event_at Long a b = if_zero b (event.Long (ring_at a))
event_at Done a b = if_zero b (event.Done a)
event_at Stop a b = if_zero (a + b) event.Stop
event_at Begin a b = called (λ call. event.Begin call b) (call_at a)
event_at End a b = called (λ call. event.End call b) (call_at a)
event_at Beat a b = if_zero b (event.Beat a)
event_at Join a b = if_zero (a + b) event.Join
event_at Late a b = if_zero b (event.Late a)
event_at Last a b = if_zero (a + b) event.Last

-- an event, if its actor may tell of it
abbrev pub if_told : Actor → Option Event → Option Event
if_told actor None = None
if_told actor (Some told) = if tells actor told then Some told else None

-- the event that an entry tells of, if it has a form
abbrev pub event_of : Entry → Option Event
event_of e = if_told (actor_at e.actor) (event_at e.kind e.a e.b)
