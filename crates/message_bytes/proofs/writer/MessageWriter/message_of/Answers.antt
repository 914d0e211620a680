use Rattle.std.proofs.Common.{◌^◌, ◌<◌, ℕ, sym, subst}
use Rattle.std.specs.Prelude.{IfSome}
use Rattle.std.specs.Option.{option_map_or}
use Rattle.atom_core.specs.Fits.{Fits}
use Rattle.patch_control.specs.declared.value.Value.TheVariants.{Int, Fixed}
use Rattle.session_play.specs.Patch.{message_of}
use Rattle.session_script.specs.declared.session.Deed.{Deed}
use Rattle.urid_map.specs.Numbers.{number_of}
use Rattle.message_bytes.proofs.Alone.{set_fits, get_fits, asked_is}
use Rattle.message_bytes.proofs.writer.MessageWriter.message_of.Goals as goal

pub returns-in-PatchFixed-clause-fits : goal.returns-in-PatchFixed-clause-fits
returns-in-PatchFixed-clause-fits c =
    subst (λ (deed : Deed). IfSome (message_of c.args.urids.now deed) (Fits 15)) (sym c.in-PatchFixed.is)
    (set_fits (number_of c.args.urids.now c.in-PatchFixed.property) (Fixed c.in-PatchFixed.value)
    (subst (λ (n : ℕ). n < 2 ^ 32) c.number.ensures c.number.type_inv) c.fixed.ensures.fits)

pub returns-in-PatchInt-clause-fits : goal.returns-in-PatchInt-clause-fits
returns-in-PatchInt-clause-fits c =
    subst (λ (deed : Deed). IfSome (message_of c.args.urids.now deed) (Fits 15)) (sym c.in-PatchInt.is)
    (set_fits (number_of c.args.urids.now c.in-PatchInt.property) (Int c.in-PatchInt.value)
    (subst (λ (n : ℕ). n < 2 ^ 32) c.number-in-PatchInt.ensures c.number-in-PatchInt.type_inv) c.int.ensures.fits)

pub returns-in-PatchGet-clause-fits : goal.returns-in-PatchGet-clause-fits
returns-in-PatchGet-clause-fits c =
    subst (λ (deed : Deed). IfSome (message_of c.args.urids.now deed) (Fits 15)) (sym c.in-PatchGet.is)
    (subst (Fits 15) (asked_is c.args.urids.now c.in-PatchGet.property)
    (get_fits (option_map_or (number_of c.args.urids.now) c.in-PatchGet.property 0) (subst (λ (n : ℕ). n < 2 ^ 32) c.asked.ensures c.asked.type_inv)))
