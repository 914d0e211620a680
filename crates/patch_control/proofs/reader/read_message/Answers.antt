use Rattle.std.proofs.Math.Bridge.{le_prop}
use Rattle.std.proofs.Math.Logic.{∥∥₁_elim}
use Rattle.patch_control.proofs.ObjectRead.{head_room, object_read}
use Rattle.patch_control.proofs.reader.read_message.Goals as goal

pub kind_in-requires : goal.kind_in-requires
kind_in-requires c =
    ∥∥₁_elim c.args.view.spelled le_prop (λ a. head_room c.body.result.now c.in-Some.properties a.0 (c.in-Some.ensures a.0 a.1) (c.body.ensures.value a.0 a.1))

pub returns-in-Some : goal.returns-in-Some
returns-in-Some c = λ v spells.
    object_read c.args.view.bytes.now c.body.result.now c.in-Some.properties v c.kind_in.result c.read_object.result spells (c.in-Some.ensures v spells)
    (c.body.ensures.value v spells) c.kind_in.ensures c.read_object.ensures
