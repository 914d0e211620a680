use Rattle.atom_core.specs.Spelling.{atom_of}
use Rattle.patch_control.specs.declared.words.TheConstants.{GET}
use Rattle.patch_control.specs.Written.{asked_for, get_object}
use Rattle.patch_control.proofs.Objects.{forged_back, finished, finished_as}
use Rattle.patch_control.proofs.writer.write_get.Goals as goal

pub or_back-requires : goal.or_back-requires
or_back-requires c =
    forged_back c.args.f.now c.try_get-tried.new.f c.mark-mark.result (atom_of (get_object c.args.property)) c.try_get-tried.result c.try_get-tried.ensures
    (record { len = c.mark-mark.ensures.len; levels = c.mark-mark.ensures.levels; waits = c.mark-mark.ensures.waits }) c.mark-mark.ensures.forged

pub returns : goal.returns
returns c =
    finished_as c.args.f.now c.or_back.new.f (get_object c.args.property) c.try_get-tried.result c.or_back.result c.or_back.ensures.same
    (finished c.args.f.now c.try_get-tried.new.f c.or_back.new.f c.mark-mark.result 0 GET (asked_for c.args.property) c.try_get-tried.result c.try_get-tried.ensures
    (record { len = c.mark-mark.ensures.len; levels = c.mark-mark.ensures.levels; waits = c.mark-mark.ensures.waits }) c.or_back.ensures.forge)
