use Rattle.std.proofs.Common.{◌∙◌}
use Rattle.atom_core.specs.Spelling.{atom_of}
use Rattle.patch_control.specs.Written.{set_object}
use Rattle.message_bytes.proofs.Alone.{put_alone, parcel_is, set_short}
use Rattle.message_bytes.proofs.writer.set.Goals as goal

pub returns-clause-message : goal.returns-clause-message
returns-clause-message c =
    let h = put_alone c.args.forge.now.room (set_object c.args.property c.args.value.now) c.write_set.result c.clear.new.self c.write_set.new.f c.requires (set_short c.args.property c.args.value.now) c.clear.ensures c.write_set.ensures in
    parcel_is c.new.result c.done.result.now (atom_of (set_object c.args.property c.args.value.now)) (c.done.ensures ∙ h.bytes) (set_short c.args.property c.args.value.now) c.new.ensures.some c.new.ensures.none
