-- What happened, as a value that carries what it has, and the entry that an actor makes of it.
use Rattle.step_law.specs.declared.actor.Actor.{Actor}
use Rattle.step_law.specs.declared.entry.Entry.{Entry}
use Rattle.step_law.specs.declared.entry.Kind.TheVariants as kind
use Rattle.step_law.specs.declared.event.Event.{Event}
use Rattle.step_law.specs.declared.event.Event.TheVariants.{Block, Look, Take, Send, Full, Long, Done, Stop, Begin, End, Beat, Join, Late, Last}
use Rattle.step_law.specs.Call.{call_number}
use Rattle.step_law.specs.Entry.{entry_of}
use Rattle.step_law.specs.Ring.{ring_number}

-- the entry of an actor's event: a call and its instance, a ring, or the number of a line
abbrev pub entry_from : Actor → Event → Entry
entry_from actor (Block block) = entry_of actor kind.Block block 0
entry_from actor (Look ring shown) = entry_of actor kind.Look (ring_number ring) shown
entry_from actor (Take ring) = entry_of actor kind.Take (ring_number ring) 0
entry_from actor (Send ring) = entry_of actor kind.Send (ring_number ring) 0
entry_from actor (Full ring) = entry_of actor kind.Full (ring_number ring) 0
entry_from actor (Long ring) = entry_of actor kind.Long (ring_number ring) 0
entry_from actor (Done block) = entry_of actor kind.Done block 0
entry_from actor Stop = entry_of actor kind.Stop 0 0
entry_from actor (Begin call inst) = entry_of actor kind.Begin (call_number call) inst
entry_from actor (End call inst) = entry_of actor kind.End (call_number call) inst
entry_from actor (Beat progress) = entry_of actor kind.Beat progress 0
entry_from actor Join = entry_of actor kind.Join 0 0
entry_from actor (Late action) = entry_of actor kind.Late action 0
entry_from actor Last = entry_of actor kind.Last 0 0
