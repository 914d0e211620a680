-- The text of a record, format 1: a line of the format, a line for each entry, and an LF at the end of each line.
use Rattle.std.specs.Prelude.{ℕ, List, [], ◌++◌, flat_map, Option, Some, None, codes, decimal}
use Rattle.step_law.specs.declared.call.Call.{Call}
use Rattle.step_law.specs.declared.entry.Entry.{Entry}
use Rattle.step_law.specs.declared.entry.Kind.{Kind}
use Rattle.step_law.specs.declared.entry.Kind.TheVariants.{Block, Look, Take, Send, Full, Long, Done, Stop, Begin, End, Beat, Join, Late, Last}
use Rattle.step_law.specs.Actor.{actor_at, actor_name}
use Rattle.step_law.specs.Call.{call_at, call_name}
use Rattle.step_law.specs.Ring.{ring_at, ring_name}

-- the name of the ring with a number
abbrev pub ring_text : ℕ → List ℕ
ring_text ring = ring_name (ring_at ring)

-- the name of a call, or `unknown` for a number that no call has
abbrev pub call_text : Option Call → List ℕ
call_text (Some call) = call_name call
call_text None = codes "unknown"

-- a call on an instance
abbrev pub called_text : ℕ → ℕ → List ℕ
called_text call inst = call_text (call_at call) ++ (codes " " ++ decimal inst)

-- what happened, after the actor's name
abbrev pub event_text : Kind → ℕ → ℕ → List ℕ
event_text Block a b = codes " block " ++ decimal a
event_text Look a b = codes " look " ++ (ring_text a ++ (codes " " ++ decimal b))
event_text Take a b = codes " take " ++ ring_text a
event_text Send a b = codes " send " ++ ring_text a
event_text Full a b = codes " full " ++ ring_text a
event_text Long a b = codes " long " ++ ring_text a
event_text Done a b = codes " done " ++ decimal a
event_text Stop a b = codes " stop"
event_text Begin a b = codes " begin " ++ called_text a b
event_text End a b = codes " end " ++ called_text a b
event_text Beat a b = codes " beat " ++ decimal a
event_text Join a b = codes " join"
event_text Late a b = codes " late " ++ decimal a
event_text Last a b = []

-- the line of an entry; the end of a record names no actor
abbrev pub line_by : Kind → Entry → List ℕ
line_by Last e = codes "end\n"
line_by _ e = actor_name (actor_at e.actor) ++ (event_text e.kind e.a e.b ++ codes "\n")

abbrev pub line_of : Entry → List ℕ
line_of e = line_by e.kind e

-- the text of a record
abbrev pub record_text : List Entry → List ℕ
record_text steps = codes "lv2fx-record 1\n" ++ flat_map line_of steps
