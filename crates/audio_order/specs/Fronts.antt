-- Where audio's table has the fronts of all instances.
use Rattle.std.specs.Prelude.{◌≡◌, ℕ, nat_eq, Bool, false, if◌then◌else◌, List, slice_get, Option, Some, None}
use Rattle.std.specs.Option.{option_map_or}
use Rattle.record_law.specs.Audio as law
use Rattle.record_law.specs.Message.{History}
use Rattle.audio_order.specs.declared.fronts.Moved.{Moved}
use Rattle.audio_order.specs.declared.fronts.Place.{Place}
use Rattle.audio_order.specs.declared.fronts.Place.TheVariants.{Here, Wanted, Away}

-- the order of work's word for a place
abbrev pub place_of : Place → law.Place
place_of Here = law.here
place_of Wanted = law.wanted
place_of Away = law.away

abbrev pub is_here : Place → Bool
is_here place = law.is_here (place_of place)

abbrev pub is_wanted : Place → Bool
is_wanted place = law.is_wanted (place_of place)

-- audio has the front of an instance
abbrev pub has_front : List Place → ℕ → Bool
has_front places inst = option_map_or is_here (slice_get places inst) false

-- a table says where the fronts are after audio's steps
abbrev pub AreFronts : List Place → History → Type 0
AreFronts places h = (inst : ℕ) (place : Place) → slice_get places inst ≡ Some place → place_of place ≡ law.front_place inst h

-- the place of a front, where another may have moved
abbrev pub place_after : Option Moved → ℕ → law.Place → law.Place
place_after None inst before = before
place_after (Some moved) inst before = if nat_eq moved.inst inst then place_of moved.place else before
