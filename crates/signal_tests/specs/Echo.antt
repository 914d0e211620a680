-- The ports of an echo, and a setup of two.
use Rattle.std.specs.Prelude.{◌≡◌, true, false, All, List, [], ◌∷◌, length}
use Rattle.plugin_decl.specs.declared.declaration.Decl.{Decl}
use Rattle.plugin_decl.specs.declared.declaration.Port.{Port}
use Rattle.plugin_decl.specs.declared.declaration.PortKind.TheVariants.{Atom}
use Rattle.graph_order.specs.declared.setup.Setup.{Setup}

-- an input and an output of events, with room for 4096 bytes each
abbrev pub AreTwo : List Port → Type 0
AreTwo (input ∷ (output ∷ [])) =
    (input.index ≡ 0) × (output.index ≡ 1) × (input.input ≡ true) × (output.input ≡ false) × (input.kind ≡ Atom) × (output.kind ≡ Atom)
    × (input.room ≡ 4096) × (output.room ≡ 4096)
AreTwo ports = ⊥

abbrev pub IsEcho : Decl → Type 0
IsEcho one = AreTwo one.ports

pub record AreEchoes (setup : Setup) : Type 0 where
  pub two : length setup.decls ≡ 2
  pub each : All IsEcho setup.decls
