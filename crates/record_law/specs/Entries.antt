-- Entries compared.
use Rattle.std.specs.Prelude.{ℕ, Bool, ◌==◌, ◌&&◌}
use Rattle.step_law.specs.declared.actor.Actor.{Actor}
use Rattle.step_law.specs.declared.entry.Entry.{Entry}
use Rattle.step_law.specs.declared.entry.Kind.{Kind}
use Rattle.step_law.specs.declared.entry.Kind.TheVariants.{Block, Look, Take, Send, Full, Long, Done, Stop, Begin, End, Beat, Join, Late, Last}
use Rattle.step_law.specs.declared.ring.Ring.{Ring}
use Rattle.step_law.specs.Actor.{actor_number}
use Rattle.step_law.specs.Ring.{ring_number}

-- kinds have numbers, to compare them
abbrev pub kind_number : Kind → ℕ
kind_number Block = 0
kind_number Look = 1
kind_number Take = 2
kind_number Send = 3
kind_number Full = 4
kind_number Long = 5
kind_number Done = 6
kind_number Stop = 7
kind_number Begin = 8
kind_number End = 9
kind_number Beat = 10
kind_number Join = 11
kind_number Late = 12
kind_number Last = 13

abbrev pub is_kind : Kind → Entry → Bool
is_kind kind e = kind_number e.kind == kind_number kind

-- an entry is an actor's
abbrev pub is_by : Actor → Entry → Bool
is_by actor e = e.actor == actor_number actor

-- an entry of this kind is on this ring
abbrev pub is_on : Kind → Ring → Entry → Bool
is_on kind ring e = is_kind kind e && (e.a == ring_number ring)

abbrev pub same_entry : Entry → Entry → Bool
same_entry x e = (e.actor == x.actor) && is_kind x.kind e && (e.a == x.a) && (e.b == x.b)
