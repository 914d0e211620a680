use Rattle.atom_core.specs.Value.{keyed, part, none}
use Rattle.atom_core.specs.Spelling.{atom_of}
use Rattle.patch_control.specs.declared.words.TheConstants.{PUT, BODY}
use Rattle.patch_control.specs.Written.{body_with, put_object}
use Rattle.patch_control.proofs.Objects.{forged_back, finished, finished_as}
use Rattle.patch_control.proofs.writer.write_put.Goals as goal

pub or_back-requires : goal.or_back-requires
or_back-requires c =
    forged_back c.args.f.now c.try_put-tried.new.f c.mark-mark.result (atom_of (put_object c.args.rows.now)) c.try_put-tried.result c.try_put-tried.ensures
    (record { len = c.mark-mark.ensures.len; levels = c.mark-mark.ensures.levels; waits = c.mark-mark.ensures.waits }) c.mark-mark.ensures.forged

pub returns : goal.returns
returns c =
    finished_as c.args.f.now c.or_back.new.f (put_object c.args.rows.now) c.try_put-tried.result c.or_back.result c.or_back.ensures.same
    (finished c.args.f.now c.try_put-tried.new.f c.or_back.new.f c.mark-mark.result 0 PUT (part (keyed BODY 0) (body_with c.args.rows.now) none) c.try_put-tried.result c.try_put-tried.ensures
    (record { len = c.mark-mark.ensures.len; levels = c.mark-mark.ensures.levels; waits = c.mark-mark.ensures.waits }) c.or_back.ensures.forge)
