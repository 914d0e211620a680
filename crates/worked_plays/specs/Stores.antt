-- Two codes with a state to play worked records with: one that keeps a level, and one that takes and answers messages about it.
use Rattle.std.specs.Prelude.{ℕ, true, ◌+◌, ◌+ℤ◌, ◌==◌, ℤ, pos, List, [], ◌∷◌, ◌++◌, drop, find, length, map, replicate, if◌then◌else◌, codes, Option, None, Some, option_map}
use Rattle.std.specs.Int.{w64, to_le_bytes, cast_signed, cast_unsigned}
use Rattle.std.specs.Option.{option_map_or}
use Rattle.std.specs.Str.{bytes_eq}
use Rattle.lv_base.specs.Number.{clamped}
use Rattle.interaction.specs.Interaction.{Interaction, done, ask}
use Rattle.atom_core.specs.Place.{number_at, wide_at}
use Rattle.atom_core.specs.Value.{urid, fixed, object, keyed, Value, plain, other, holding, none, part}
use Rattle.atom_sequence.specs.Event.{Event}
use Rattle.state_store.specs.declared.prop.Prop.{Prop}
use Rattle.state_store.specs.Properties.{held}
use Rattle.plug_api.specs.Signal.{events, sound}
use Rattle.plug_api.specs.Inputs.{Inputs, Outputs, value_at, events_at}
use Rattle.plug_api.specs.Meaning.{FrontMeaning, BackMeaning, CodesMeaning, Making, made}
use Rattle.session_play.specs.EventBytes.{bytes_of}
use Rattle.session_play.specs.EventBytes as bytes
use Rattle.session_play.specs.Patch.{set_type, put_type, property_key, value_key, body_key, Property, properties_of}
use Rattle.session_play.specs.Signals.{at_start}

-- the first URIs, whatever they are, then that of the host's fixed numbers, and the key of a level
abbrev pub numbered_uris : List (List ℕ)
numbered_uris = replicate 13 (codes "urn:example:other") ++ codes "urn:lv2fx:Fixed" ∷ codes "urn:lv2fx:level" ∷ []

abbrev pub fixed_kind : ℕ
fixed_kind = 14

abbrev pub level_key : ℕ
level_key = 15

-- each part has the level
pub data Front : Type 0 where
  keep : ℤ → Front
  tank : ℤ → Front

pub data Back : Type 0 where
  keeper : ℤ → Back
  tanker : ℤ → Back

-- a level as eight bytes, and back
abbrev pub level_bytes : ℤ → List ℕ
level_bytes level = to_le_bytes w64 (cast_unsigned w64 level)

abbrev pub level_in : List ℕ → ℤ
level_in body = cast_signed w64 (wide_at body 0)

abbrev pub steady : Inputs → (port : ℕ) → ℤ → Outputs
steady given port level = (port, sound (replicate given.frames (clamped level))) ∷ []

-- ---- messages

abbrev pub level_set : ℤ → Value
level_set level = holding (object 0 set_type) (part (keyed property_key 0) (plain (urid level_key)) (part (keyed value_key 0) (plain (fixed level)) none))

abbrev pub level_put : ℤ → Value
level_put level = holding (object 0 put_type) (part (keyed body_key 0) (holding (object 0 0) (part (keyed level_key 0) (plain (fixed level)) none)) none)

-- the value that a message has with a key
abbrev pub with_key : ℕ → List Property → Option (List ℕ)
with_key key properties = option_map (λ (it : Property). it.body) (find (λ (it : Property). it.key == key) properties)

-- a Get of a property is answered by a Set, one of all by a Put
abbrev pub answer_to : Option (List ℕ) → ℤ → Value
answer_to None level = level_put level
answer_to (Some property) level = level_set level

-- what a message asks for: a new level, or an answer
pub data Asked : Type 0 where
  level_for : ℤ → Asked
  answer_with : Option (List ℕ) → Asked
  other_message : Asked

abbrev pub asked_by : Value → Asked
asked_by (plain (other kind body)) =
    if number_at body 4 == set_type then level_for (option_map_or level_in (with_key value_key (properties_of body)) (pos 0))
    else answer_with (with_key property_key (properties_of body))
asked_by value = other_message

-- all messages in turn: a new level is attempted as a job, and what is asked for is answered
abbrev pub tank_run : Inputs → List Asked → ℤ → List Event → Interaction (Front × Outputs)
tank_run given [] level told = done (tank level, (1, events (bytes_of told)) ∷ steady given 2 level)
tank_run given (level_for to ∷ later) level told = ask (level_bytes to) (λ answer. tank_run given later to told)
tank_run given (answer_with property ∷ later) level told = tank_run given later level (told ++ at_start (answer_to property level) ∷ [])
tank_run given (other_message ∷ later) level told = tank_run given later level told

abbrev pub run_of : Front → Inputs → Interaction (Front × Outputs)
run_of (keep level) given = done (keep level, steady given 0 (level +ℤ (value_at given 1).0))
run_of (tank level) given = tank_run given (map (λ (it : Event). asked_by it.value) (bytes.events_at (events_at given 0))) level []

abbrev pub response_of : Front → List ℕ → Front
response_of (keep level) body = keep level
response_of (tank level) body = tank (level_in body)

abbrev pub fronts : FrontMeaning Front
fronts = record {
  fits = λ front ports. true;
  activate = λ front. front;
  deactivate = λ front. front;
  run = run_of;
  response = response_of;
  end_run = λ front. front;
}

-- ---- works and states

-- a job of nine bytes responds with the level that it has, one of eight is the level
abbrev pub work_of : Back → List ℕ → Interaction (Back × ℕ)
work_of (keeper level) body = done (keeper level, 1)
work_of (tanker level) body =
    if length body == 9 then ask (drop 1 body) (λ answer. done (tanker (level_in (drop 1 body)), answer)) else done (tanker (level_in body), 0)

abbrev pub saved_level : ℤ → ℕ × List (ℕ × Prop)
saved_level level = (0, (level_key, record { kind = fixed_kind; flags = 3; bytes = level_bytes level }) ∷ [])

abbrev pub save_of : Back → ℕ → ℕ × List (ℕ × Prop)
save_of (keeper level) mapped = saved_level level
save_of (tanker level) mapped = saved_level level

-- a restore of no level has status 5, no property
abbrev pub safe_of : Back → Option Prop → Interaction (Back × ℕ)
safe_of back None = done (back, 5)
safe_of back (Some it) = ask (1 ∷ it.bytes) (λ answer. done (back, answer))

abbrev pub backs : BackMeaning Back
backs = record { work = work_of; save = save_of; restore_safe = λ back properties. safe_of back (held properties level_key) }

abbrev pub restored : Front → Back → Option Prop → Front × Back × ℕ
restored front back None = (front, back, 5)
restored (keep level) back (Some it) = (keep (level_in it.bytes), keeper (level_in it.bytes), 0)
restored (tank level) back (Some it) = (tank (level_in it.bytes), tanker (level_in it.bytes), 0)

abbrev pub parts_of : List ℕ → List (List ℕ) → Making Front Back
parts_of uri urids = if bytes_eq uri (codes "urn:lv2fx:keep") then made (keep (pos 0)) (keeper (pos 0)) urids else made (tank (pos 0)) (tanker (pos 0)) urids

abbrev pub makers : CodesMeaning Front Back
makers = record {
  text = λ uri. None;
  make = λ decl rate options urids. parts_of decl.uri urids;
  restore = λ front back properties. restored front back (held properties level_key);
}
