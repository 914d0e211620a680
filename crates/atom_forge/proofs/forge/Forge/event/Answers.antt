use Rattle.std.proofs.Common.{sym, subst, to_z, of_z}
use Rattle.std.specs.Int.{w64}
use Rattle.std.proofs.lemmas.Int.{to_z-of_z}
use Rattle.std.specs.Prelude.{FitsSigned}
use Rattle.atom_core.specs.Value.{timed}
use Rattle.atom_core.specs.Spelling.{i64}
use Rattle.atom_forge.specs.declared.level.Holds.TheVariants.{Events}
use Rattle.atom_forge.proofs.forge.Forge.event.Goals as goal

pub lead-requires : goal.lead-requires
unfolding i64
lead-requires c =
    let time = to_z w64 (of_z w64 c.args.time) in
    let fits = subst (FitsSigned w64) (sym (to_z-of_z w64 c.args.time c.ranges.time)) c.ranges.time in
    (Events, timed time, c.requires, fits, c.to_le_bytes.ensures)
