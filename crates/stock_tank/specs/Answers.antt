-- The events that answer patch:Get (LV2 patch).
use Rattle.std.specs.Prelude.{ℕ, ◌-◌, nat_le, if◌then◌else◌, List, [], ◌∷◌}
use Rattle.lv_base.specs.declared.number.Fixed.{Fixed}
use Rattle.atom_core.specs.Value.{Value}
use Rattle.atom_core.specs.Spelling.{parts_of}
use Rattle.atom_sequence.specs.Event.{Event, as_parts, size_of}
use Rattle.patch_control.specs.Written.{set_object, put_object}
use Rattle.patch_control.specs.declared.value.Value.TheVariants.{Fixed as number}
use Rattle.stock_tank.specs.declared.ask.Ask.TheVariants.{Set, Get, Nothing}
use Rattle.stock_tank.specs.declared.ask.Wanted.{Wanted}
use Rattle.stock_tank.specs.declared.ask.Wanted.TheVariants.{Level, All}
use Rattle.stock_tank.specs.Requests.{Request}

-- a Get of the level is answered by a Set, a Get of all by a Put
abbrev pub answer_to : ℕ → Fixed → Wanted → Value
answer_to key level Level = set_object key (number level)
answer_to key level All = put_object ((key, number level) ∷ [])

-- the answers, each at the time of its Get and with the level as it is then
abbrev pub answers_to : ℕ → Fixed → List Request → List Event
answers_to key level [] = []
answers_to key level ((time, Set new) ∷ requests) = answers_to key new requests
answers_to key level ((time, Get wanted) ∷ requests) =
    record { time = time; value = answer_to key level wanted } ∷ answers_to key level requests
answers_to key level ((time, Nothing) ∷ requests) = answers_to key level requests

-- the events that are written where there is room for so many bytes: those that fit after the ones before them
abbrev pub fitting : ℕ → List Event → List Event
fitting room [] = []
fitting room (e ∷ events) = if nat_le (size_of e) room then e ∷ fitting (room - size_of e) events else fitting room events

-- their bytes
abbrev pub event_bytes : List Event → List ℕ
event_bytes events = parts_of (as_parts events)
