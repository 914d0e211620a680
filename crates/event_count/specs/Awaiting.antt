-- A forge that awaits an event.
use Rattle.std.specs.Prelude.{◌≡◌, false, [], ◌∷◌}
use Rattle.atom_forge.specs.declared.level.Holds.TheVariants.{Events}
use Rattle.atom_forge.specs.Forged.{Forged}

-- a sequence is the only container that is open, and no event waits for its atom
pub record AwaitsEvent (forge : Forged) : Type 0 where
  pub level : forge.levels ≡ record { holds = Events; at = 0 } ∷ []
  pub still : forge.waits ≡ false
