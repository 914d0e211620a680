-- The entries that actors make.
use Rattle.std.specs.Prelude.{ℕ}
use Rattle.step_law.specs.declared.actor.Actor.{Actor}
use Rattle.step_law.specs.declared.actor.Actor.TheVariants.{Audio, Control}
use Rattle.step_law.specs.declared.call.Call.{Call}
use Rattle.step_law.specs.declared.entry.Entry.{Entry}
use Rattle.step_law.specs.declared.entry.Kind.{Kind}
use Rattle.step_law.specs.declared.entry.Kind.TheVariants.{Block, Look, Take, Send, Full, Long, Done, Stop, Begin, End, Beat, Join, Late, Last}
use Rattle.step_law.specs.declared.ring.Ring.{Ring}
use Rattle.step_law.specs.Actor.{actor_number}
use Rattle.step_law.specs.Call.{call_number}
use Rattle.step_law.specs.Ring.{ring_number}

-- an entry of an actor
abbrev pub entry_of : Actor → Kind → ℕ → ℕ → Entry
entry_of actor kind a b = record { actor = actor_number actor; kind = kind; a = a; b = b }

-- audio begins a block, and has ended it
abbrev pub block_of : ℕ → Entry
block_of block = entry_of Audio Block block 0

abbrev pub done_of : ℕ → Entry
done_of block = entry_of Audio Done block 0

-- a look at a ring showed so many messages
abbrev pub look_of : Actor → Ring → ℕ → Entry
look_of actor ring shown = entry_of actor Look (ring_number ring) shown

-- a message went through a ring, or didn't
abbrev pub take_of : Actor → Ring → Entry
take_of actor ring = entry_of actor Take (ring_number ring) 0

abbrev pub send_of : Actor → Ring → Entry
send_of actor ring = entry_of actor Send (ring_number ring) 0

abbrev pub full_of : Actor → Ring → Entry
full_of actor ring = entry_of actor Full (ring_number ring) 0

abbrev pub long_of : Actor → Ring → Entry
long_of actor ring = entry_of actor Long (ring_number ring) 0

-- a call on an instance begins, and has ended
abbrev pub begin_of : Actor → Call → ℕ → Entry
begin_of actor call inst = entry_of actor Begin (call_number call) inst

abbrev pub end_of : Actor → Call → ℕ → Entry
end_of actor call inst = entry_of actor End (call_number call) inst

-- an actor stops
abbrev pub stop_of : Actor → Entry
stop_of actor = entry_of actor Stop 0 0

-- control saw how far audio is, that all others have stopped, or has an action that wasn't sent
abbrev pub beat_of : ℕ → Entry
beat_of progress = entry_of Control Beat progress 0

abbrev pub join : Entry
join = entry_of Control Join 0 0

abbrev pub late_of : ℕ → Entry
late_of action = entry_of Control Late action 0

-- the end of the record
abbrev pub last : Entry
last = entry_of Control Last 0 0
