use Rattle.atom_core.specs.Value.{keyed, part, none}
use Rattle.atom_core.specs.Spelling.{atom_of}
use Rattle.patch_control.specs.declared.words.TheConstants.{SET, PROPERTY, VALUE}
use Rattle.patch_control.specs.Written.{value_of, urid_value, set_object}
use Rattle.patch_control.proofs.Objects.{forged_back, finished, finished_as}
use Rattle.patch_control.proofs.writer.write_set.Goals as goal

pub or_back-requires : goal.or_back-requires
or_back-requires c =
    forged_back c.args.f.now c.try_set-tried.new.f c.mark-mark.result (atom_of (set_object c.args.property c.args.value.now)) c.try_set-tried.result c.try_set-tried.ensures
    (record { len = c.mark-mark.ensures.len; levels = c.mark-mark.ensures.levels; waits = c.mark-mark.ensures.waits }) c.mark-mark.ensures.forged

pub returns : goal.returns
returns c =
    finished_as c.args.f.now c.or_back.new.f (set_object c.args.property c.args.value.now) c.try_set-tried.result c.or_back.result c.or_back.ensures.same
    (finished c.args.f.now c.try_set-tried.new.f c.or_back.new.f c.mark-mark.result 0 SET (part (keyed PROPERTY 0) (urid_value c.args.property) (part (keyed VALUE 0) (value_of c.args.value.now) none)) c.try_set-tried.result c.try_set-tried.ensures
    (record { len = c.mark-mark.ensures.len; levels = c.mark-mark.ensures.levels; waits = c.mark-mark.ensures.waits }) c.or_back.ensures.forge)
