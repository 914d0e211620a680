use Rattle.std.proofs.Common.{◌∙◌}
use Rattle.atom_core.specs.Spelling.{atom_of}
use Rattle.patch_control.specs.Written.{get_object}
use Rattle.message_bytes.proofs.Alone.{put_alone, parcel_is, get_short}
use Rattle.message_bytes.proofs.writer.get.Goals as goal

pub returns-clause-message : goal.returns-clause-message
returns-clause-message c =
    let h = put_alone c.args.forge.now.room (get_object c.args.property) c.write_get.result c.clear.new.self c.write_get.new.f c.requires (get_short c.args.property) c.clear.ensures c.write_get.ensures in
    parcel_is c.new.result c.done.result.now (atom_of (get_object c.args.property)) (c.done.ensures ∙ h.bytes) (get_short c.args.property) c.new.ensures.some c.new.ensures.none
