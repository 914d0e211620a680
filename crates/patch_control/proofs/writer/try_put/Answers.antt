use Rattle.std.proofs.Common.{◌∙◌, [], sym, length, arith, length-append}
use Rattle.std.proofs.lemmas.List.{append-nil}
use Rattle.std.proofs.lemmas.Result.{err_from_is_err_and}
use Rattle.atom_core.specs.Value.{keyed, part, none}
use Rattle.atom_core.specs.Spelling.{lead_bytes, part_of, parts_of, atom_of}
use Rattle.patch_control.specs.declared.words.TheConstants.{PUT, BODY}
use Rattle.patch_control.specs.Written.{rows_in, body_with, put_object}
use Rattle.patch_control.proofs.Filling.{tries_fail, object_fails, extends_as, begins, filling_lead, filling_levels, filling_complete, filled_more, filling_fails, filling_closes, filling_as, object_length, part_length}
use Rattle.patch_control.proofs.Nested.{lead_levels, takes_atom, nested_fails, nested_put}
use Rattle.patch_control.proofs.writer.try_put.Goals as goal

pub returns-in_err-object : goal.returns-in_err-object
returns-in_err-object c =
    let all = part (keyed BODY 0) (body_with c.args.rows.now) none in
    let p = err_from_is_err_and c.from_residual.result c.from_residual.ensures.1 in
    tries_fail c.args.f.now c.object.new.self (atom_of (put_object c.args.rows.now)) c.from_residual.result _ p.1
    (object_fails c.args.f.now c.object.new.self 0 PUT all c.in_err-object.ensures.0 c.in_err-object.ensures.1)

pub key-requires : goal.key-requires
key-requires c =
    filling_lead c.args.f.now c.object.new.self 0 PUT [] (begins c.args.f.now c.object.new.self 0 PUT c.in_ok-object.ensures.0 c.in_ok-object.ensures.1)

pub returns-in_err-key : goal.returns-in_err-key
returns-in_err-key c =
    let all = part (keyed BODY 0) (body_with c.args.rows.now) none in
    let whole = length (atom_of (put_object c.args.rows.now)) in
    let p = err_from_is_err_and c.from_residual-in_err-key.result c.from_residual-in_err-key.ensures.1 in
    let h = begins c.args.f.now c.object.new.self 0 PUT c.in_ok-object.ensures.0 c.in_ok-object.ensures.1 in
    tries_fail c.args.f.now c.key.new.self (atom_of (put_object c.args.rows.now)) c.from_residual-in_err-key.result _ p.1
    (filling_fails c.args.f.now c.object.new.self c.key.new.self 0 PUT [] (lead_bytes (keyed BODY 0)) whole h c.in_err-key.ensures.0
    (extends_as c.object.new.self c.key.new.self c.in_err-key.ensures.1)
    (omega (arith, object_length 0 PUT all, length-append (part_of (keyed BODY 0) (body_with c.args.rows.now)) [], part_length (keyed BODY 0) (body_with c.args.rows.now))))

pub put_body-requires-clause-takes : goal.put_body-requires-clause-takes
put_body-requires-clause-takes c =
    let h = begins c.args.f.now c.object.new.self 0 PUT c.in_ok-object.ensures.0 c.in_ok-object.ensures.1 in
    let levels = filling_levels c.args.f.now c.object.new.self 0 PUT [] h in
    takes_atom c.object.new.self c.key.new.self (lead_bytes (keyed BODY 0)) c.in_ok-key.ensures.1 (omega (arith, levels)) (omega (arith, levels, c.requires.deep))

pub put_body-requires-clause-deep : goal.put_body-requires-clause-deep
put_body-requires-clause-deep c =
    omega (
      arith,
      c.requires.deep,
      filling_levels c.args.f.now c.object.new.self 0 PUT [] (begins c.args.f.now c.object.new.self 0 PUT c.in_ok-object.ensures.0 c.in_ok-object.ensures.1),
      lead_levels c.object.new.self c.key.new.self (lead_bytes (keyed BODY 0)) c.in_ok-key.ensures.1,
    )

pub returns-in_err-put_body : goal.returns-in_err-put_body
returns-in_err-put_body c =
    let rows = rows_in c.args.rows.now in
    let all = part (keyed BODY 0) (body_with c.args.rows.now) none in
    let piece = part_of (keyed BODY 0) (body_with c.args.rows.now) in
    let whole = length (atom_of (put_object c.args.rows.now)) in
    let p = err_from_is_err_and c.from_residual-in_err-put_body.result c.from_residual-in_err-put_body.ensures.1 in
    let h = begins c.args.f.now c.object.new.self 0 PUT c.in_ok-object.ensures.0 c.in_ok-object.ensures.1 in
    let n = nested_fails c.object.new.self c.key.new.self c.put_body.new.f (keyed BODY 0) 0 0 (length (atom_of (body_with c.args.rows.now))) rows c.in_ok-key.ensures.0
    c.in_ok-key.ensures.1 c.in_err-put_body.ensures.0 (omega (arith, object_length 0 0 rows)) c.in_err-put_body.ensures.1 in
    tries_fail c.args.f.now c.put_body.new.f (atom_of (put_object c.args.rows.now)) c.from_residual-in_err-put_body.result _ p.1
    (filling_fails c.args.f.now c.object.new.self c.put_body.new.f 0 PUT [] piece whole h n.0 n.1 (omega (arith, object_length 0 PUT all, length-append piece [])))

pub pop-requires : goal.pop-requires
pop-requires c =
    let piece = part_of (keyed BODY 0) (body_with c.args.rows.now) in
    let h = begins c.args.f.now c.object.new.self 0 PUT c.in_ok-object.ensures.0 c.in_ok-object.ensures.1 in
    let n = nested_put c.object.new.self c.key.new.self c.put_body.new.f (keyed BODY 0) 0 0 (rows_in c.args.rows.now) c.in_ok-key.ensures.0 c.in_ok-key.ensures.1
    c.in_ok-put_body.ensures.0 c.in_ok-put_body.ensures.1 in
    filling_complete c.args.f.now c.put_body.new.f 0 PUT piece (filled_more c.args.f.now c.object.new.self c.put_body.new.f 0 PUT [] piece h n.0 n.1)

pub returns : goal.returns
returns c =
    let piece = part_of (keyed BODY 0) (body_with c.args.rows.now) in
    let all = part (keyed BODY 0) (body_with c.args.rows.now) none in
    let h = begins c.args.f.now c.object.new.self 0 PUT c.in_ok-object.ensures.0 c.in_ok-object.ensures.1 in
    let n = nested_put c.object.new.self c.key.new.self c.put_body.new.f (keyed BODY 0) 0 0 (rows_in c.args.rows.now) c.in_ok-key.ensures.0 c.in_ok-key.ensures.1
    c.in_ok-put_body.ensures.0 c.in_ok-put_body.ensures.1 in
    let done = filling_closes c.args.f.now c.put_body.new.f 0 PUT all
    (filling_as c.args.f.now c.put_body.new.f 0 PUT piece (parts_of all) (sym (append-nil piece))
    (filled_more c.args.f.now c.object.new.self c.put_body.new.f 0 PUT [] piece h n.0 n.1)) in
    (done.0, c.pop.ensures ∙ done.1)
