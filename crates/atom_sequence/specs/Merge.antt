-- The merge of lists of events: all of them in stable order of time, cut before the first one that doesn't fit.
use Rattle.std.specs.Prelude.{ℕ, ◌-◌, nat_le, if◌then◌else◌, List, [], ◌∷◌, ◌++◌, int_le}
use Rattle.atom_sequence.specs.Event.{Event, size_of}

-- the lists one after the other
abbrev pub joined : List (List Event) → List Event
joined [] = []
joined (events ∷ lists) = events ++ joined lists

-- an event before the first one that isn't earlier
abbrev pub put_in : Event → List Event → List Event
put_in e [] = e ∷ []
put_in e (f ∷ events) = if int_le e.time f.time then e ∷ (f ∷ events) else f ∷ put_in e events

-- the events in order of time, those at one time in their own order
abbrev pub in_order : List Event → List Event
in_order [] = []
in_order (e ∷ events) = put_in e (in_order events)

-- the events before the first one that has no room, where there is room for so many bytes
abbrev pub cut : ℕ → List Event → List Event
cut room [] = []
cut room (e ∷ events) = if nat_le (size_of e) room then e ∷ cut (room - size_of e) events else []

abbrev pub merged : ℕ → List (List Event) → List Event
merged room lists = cut room (in_order (joined lists))
