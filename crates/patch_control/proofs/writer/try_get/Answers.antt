use Rattle.std.proofs.Common.{◌∙◌, [], length, arith}
use Rattle.std.proofs.lemmas.Result.{err_from_is_err_and}
use Rattle.atom_core.specs.Spelling.{parts_of, atom_of}
use Rattle.patch_control.specs.declared.words.TheConstants.{GET}
use Rattle.patch_control.specs.Written.{asked_for, get_object}
use Rattle.patch_control.proofs.Filling.{tries_fail, object_fails, begins, filling_lead, filling_levels, filling_complete, filled_more, filling_fails, filling_closes, object_length}
use Rattle.patch_control.proofs.writer.try_get.Goals as goal

pub returns-in_err-object : goal.returns-in_err-object
returns-in_err-object c =
    let p = err_from_is_err_and c.from_residual.result c.from_residual.ensures.1 in
    tries_fail c.args.f.now c.object.new.self (atom_of (get_object c.args.property)) c.from_residual.result _ p.1
    (object_fails c.args.f.now c.object.new.self 0 GET (asked_for c.args.property) c.in_err-object.ensures.0 c.in_err-object.ensures.1)

pub put_asked-requires-clause-lead : goal.put_asked-requires-clause-lead
put_asked-requires-clause-lead c =
    filling_lead c.args.f.now c.object.new.self 0 GET [] (begins c.args.f.now c.object.new.self 0 GET c.in_ok-object.ensures.0 c.in_ok-object.ensures.1)

pub put_asked-requires-clause-deep : goal.put_asked-requires-clause-deep
put_asked-requires-clause-deep c =
    omega (
      arith,
      c.requires.deep,
      filling_levels c.args.f.now c.object.new.self 0 GET [] (begins c.args.f.now c.object.new.self 0 GET c.in_ok-object.ensures.0 c.in_ok-object.ensures.1),
    )

pub returns-in_err-put_asked : goal.returns-in_err-put_asked
returns-in_err-put_asked c =
    let p = err_from_is_err_and c.from_residual-in_err-put_asked.result c.from_residual-in_err-put_asked.ensures.1 in
    let h = begins c.args.f.now c.object.new.self 0 GET c.in_ok-object.ensures.0 c.in_ok-object.ensures.1 in
    tries_fail c.args.f.now c.put_asked.new.f (atom_of (get_object c.args.property)) c.from_residual-in_err-put_asked.result _ p.1
    (filling_fails c.args.f.now c.object.new.self c.put_asked.new.f 0 GET [] (parts_of (asked_for c.args.property)) (length (atom_of (get_object c.args.property))) h c.in_err-put_asked.ensures.0
    c.in_err-put_asked.ensures.1 (omega (arith, object_length 0 GET (asked_for c.args.property))))

pub pop-requires : goal.pop-requires
pop-requires c =
    let h = begins c.args.f.now c.object.new.self 0 GET c.in_ok-object.ensures.0 c.in_ok-object.ensures.1 in
    filling_complete c.args.f.now c.put_asked.new.f 0 GET (parts_of (asked_for c.args.property))
    (filled_more c.args.f.now c.object.new.self c.put_asked.new.f 0 GET [] (parts_of (asked_for c.args.property)) h c.in_ok-put_asked.ensures.0 c.in_ok-put_asked.ensures.1)

pub returns : goal.returns
returns c =
    let h = begins c.args.f.now c.object.new.self 0 GET c.in_ok-object.ensures.0 c.in_ok-object.ensures.1 in
    let done = filling_closes c.args.f.now c.put_asked.new.f 0 GET (asked_for c.args.property)
    (filled_more c.args.f.now c.object.new.self c.put_asked.new.f 0 GET [] (parts_of (asked_for c.args.property)) h c.in_ok-put_asked.ensures.0 c.in_ok-put_asked.ensures.1) in
    (done.0, c.pop.ensures ∙ done.1)
