-- The fields of a forge.
use Rattle.std.specs.Prelude.{◌^◌, ◌<◌, ◌≤◌, vec_len, vec_capacity}
use Rattle.atom_forge.specs.declared.forge.Forge.TheInside.{Inside}
use Rattle.atom_forge.specs.Forged.{Forged, IsForged}

abbrev pub view_of : Inside → Forged
view_of forge = record { room = forge.room; bytes = forge.bytes.items; levels = forge.levels.items; waits = forge.waits }

-- what is written has room, there is memory for all that may come, and all is a finished atom or containers that are open
pub record IsSound (forge : Inside) : Type 0 where
  pub small : forge.room < 2 ^ 32
  pub within : vec_len forge.bytes ≤ forge.room
  pub memory : forge.room ≤ vec_capacity forge.bytes
  pub levels : vec_len forge.levels ≤ 17
  pub places : 17 ≤ vec_capacity forge.levels
  pub forged : IsForged (view_of forge)
