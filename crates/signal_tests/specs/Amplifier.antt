-- The ports of an amplifier.
use Rattle.std.specs.Prelude.{◌≡◌, List, [], ◌∷◌}
use Rattle.plugin_decl.specs.declared.declaration.Port.{Port}
use Rattle.plugin_decl.specs.Valid.{HasRoom}

-- a gain, an input and an output
abbrev pub AreThree : List Port → Type 0
AreThree (gain ∷ (input ∷ (output ∷ []))) =
    (gain.index ≡ 0) × (input.index ≡ 1) × (output.index ≡ 2) × HasRoom gain × HasRoom input × HasRoom output
AreThree ports = ⊥
