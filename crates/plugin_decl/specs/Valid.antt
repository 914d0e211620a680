-- What every declaration keeps.
use Rattle.std.specs.Prelude.{◌≡◌, ℕ, ◌%◌, ◌≤◌, All, length, slice_get, IfSome}
use Rattle.plugin_decl.specs.declared.declaration.Decl.{Decl}
use Rattle.plugin_decl.specs.declared.declaration.Port.{Port}
use Rattle.plugin_decl.specs.declared.declaration.PortKind.{PortKind}
use Rattle.plugin_decl.specs.declared.declaration.PortKind.TheVariants.{Audio, Cv, Control, Atom, Unsupported}

-- the buffer of an atom port holds from 4096 to 1048576 bytes, a multiple of 8
pub record IsRoom (room : ℕ) : Type 0 where
  pub least : 4096 ≤ room
  pub most : room ≤ 1048576
  pub aligned : room % 8 ≡ 0

-- no other port has one
abbrev pub FitsKind : PortKind → ℕ → Type 0
FitsKind Atom room = IsRoom room
FitsKind Audio room = room ≡ 0
FitsKind Cv room = room ≡ 0
FitsKind Control room = room ≡ 0
FitsKind Unsupported room = room ≡ 0

abbrev pub HasRoom : Port → Type 0
HasRoom port = FitsKind port.kind port.room

-- at most 256 ports, each at the place of its index
pub record IsValid (d : Decl) : Type 0 where
  pub few : length d.ports ≤ 256
  pub numbered : (i : ℕ) → IfSome (slice_get d.ports i) (λ port. port.index ≡ i)
  pub rooms : All HasRoom d.ports
