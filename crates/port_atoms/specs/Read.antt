-- The parts of sequences and of objects as they are read: each atom as the number of its type and the bytes of its body.
use Rattle.std.specs.Prelude.{List, [], ◌∷◌}
use Rattle.atom_core.specs.Value.{other, bare, keyed, timed, plain, Parts, none, part}
use Rattle.atom_core.specs.Spelling.{kind_of, body_of}
use Rattle.atom_sequence.specs.Event.{Event}
use Rattle.session_play.specs.Patch.{Property}

-- the events of a sequence
abbrev pub events_of : Parts → List Event
events_of none = []
events_of (part (timed time) value parts) = record { time = time; value = plain (other (kind_of value) (body_of value)) } ∷ events_of parts
events_of (part bare value parts) = events_of parts
events_of (part (keyed key context) value parts) = events_of parts

-- the properties of an object
abbrev pub properties_in : Parts → List Property
properties_in none = []
properties_in (part (keyed key context) value parts) = record { key = key; kind = kind_of value; body = body_of value } ∷ properties_in parts
properties_in (part bare value parts) = properties_in parts
properties_in (part (timed time) value parts) = properties_in parts
