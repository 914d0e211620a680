-- The laws of what is read off the bytes of an atom port.
use Rattle.std.specs.Prelude.{◌≡◌, ℕ, List, is_ok}
use Rattle.atom_core.specs.Value.{object, Value, holding, Parts}
use Rattle.atom_core.specs.Spelling.{kind_of, body_of}
use Rattle.atom_core.specs.Fits.{Fits}
use Rattle.atom_core.specs.Answer.{most_containers}
use Rattle.atom_core.specs.Atoms.{SpellEvents}
use Rattle.patch_control.specs.Message.{message_of}
use Rattle.session_play.specs.EventBytes.{events_at}
use Rattle.session_play.specs.Patch.{properties_of, is_message}
use Rattle.port_atoms.specs.Read.{events_of, properties_in}

-- the events of bytes that spell some
abbrev pub EventsAreSpelled : Type 0
EventsAreSpelled = (bytes : List ℕ) (parts : Parts) → SpellEvents bytes parts → events_at bytes ≡ events_of parts

-- the properties of an object's body
abbrev pub PropertiesAreSpelled : Type 0
PropertiesAreSpelled = (id kind : ℕ) (parts : Parts) → Fits most_containers (holding (object id kind) parts)
    → properties_of (body_of (holding (object id kind) parts)) ≡ properties_in parts

-- an atom is a message by the bytes of its body exactly where its value is read as one
abbrev pub MessagesAreSpelled : Type 0
MessagesAreSpelled = (value : Value) → Fits most_containers value → is_message (kind_of value) (body_of value) ≡ is_ok (message_of value)
