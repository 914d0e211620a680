use Rattle.std.proofs.Common.{◌∙◌, List, [], ◌++◌, ℕ, ap, sym, length, arith, length-append}
use Rattle.std.proofs.lemmas.List.{append-nil}
use Rattle.std.proofs.lemmas.Result.{err_from_is_err_and}
use Rattle.atom_core.specs.Value.{keyed, part, none}
use Rattle.atom_core.specs.Spelling.{part_of, parts_of, atom_of}
use Rattle.patch_control.specs.declared.words.TheConstants.{SET, PROPERTY, VALUE}
use Rattle.patch_control.specs.Written.{value_of, urid_value, set_object}
use Rattle.patch_control.proofs.Filling.{tries_fail, object_fails, begins, filling_lead, filling_levels, filling_complete, filled_more, filling_fails, filling_closes, filling_as, object_length}
use Rattle.patch_control.proofs.writer.try_set.Goals as goal

pub returns-in_err-object : goal.returns-in_err-object
returns-in_err-object c =
    let property = part (keyed PROPERTY 0) (urid_value c.args.property) (part (keyed VALUE 0) (value_of c.args.value.now) none) in
    let p = err_from_is_err_and c.from_residual.result c.from_residual.ensures.1 in
    tries_fail c.args.f.now c.object.new.self (atom_of (set_object c.args.property c.args.value.now)) c.from_residual.result _ p.1
    (object_fails c.args.f.now c.object.new.self 0 SET property c.in_err-object.ensures.0 c.in_err-object.ensures.1)

pub put_urid-requires-clause-lead : goal.put_urid-requires-clause-lead
put_urid-requires-clause-lead c =
    filling_lead c.args.f.now c.object.new.self 0 SET [] (begins c.args.f.now c.object.new.self 0 SET c.in_ok-object.ensures.0 c.in_ok-object.ensures.1)

pub put_urid-requires-clause-deep : goal.put_urid-requires-clause-deep
put_urid-requires-clause-deep c =
    omega (
      arith,
      c.requires.deep,
      filling_levels c.args.f.now c.object.new.self 0 SET [] (begins c.args.f.now c.object.new.self 0 SET c.in_ok-object.ensures.0 c.in_ok-object.ensures.1),
    )

pub returns-in_err-put_urid : goal.returns-in_err-put_urid
returns-in_err-put_urid c =
    let first = part_of (keyed PROPERTY 0) (urid_value c.args.property) in
    let second = part (keyed VALUE 0) (value_of c.args.value.now) none in
    let all = part (keyed PROPERTY 0) (urid_value c.args.property) second in
    let p = err_from_is_err_and c.from_residual-in_err-put_urid.result c.from_residual-in_err-put_urid.ensures.1 in
    let h = begins c.args.f.now c.object.new.self 0 SET c.in_ok-object.ensures.0 c.in_ok-object.ensures.1 in
    tries_fail c.args.f.now c.put_urid.new.f (atom_of (set_object c.args.property c.args.value.now)) c.from_residual-in_err-put_urid.result _ p.1
    (filling_fails c.args.f.now c.object.new.self c.put_urid.new.f 0 SET [] first (length (atom_of (set_object c.args.property c.args.value.now))) h
    c.in_err-put_urid.ensures.0 c.in_err-put_urid.ensures.1
    (omega (arith, object_length 0 SET all, length-append first (parts_of second))))

pub put_property-requires-clause-lead : goal.put_property-requires-clause-lead
put_property-requires-clause-lead c =
    let first = part_of (keyed PROPERTY 0) (urid_value c.args.property) in
    let h = begins c.args.f.now c.object.new.self 0 SET c.in_ok-object.ensures.0 c.in_ok-object.ensures.1 in
    filling_lead c.args.f.now c.put_urid.new.f 0 SET first
    (filled_more c.args.f.now c.object.new.self c.put_urid.new.f 0 SET [] first h c.in_ok-put_urid.ensures.0 c.in_ok-put_urid.ensures.1)

pub put_property-requires-clause-deep : goal.put_property-requires-clause-deep
put_property-requires-clause-deep c =
    let first = part_of (keyed PROPERTY 0) (urid_value c.args.property) in
    let h = begins c.args.f.now c.object.new.self 0 SET c.in_ok-object.ensures.0 c.in_ok-object.ensures.1 in
    omega (
      arith,
      c.requires.deep,
      filling_levels c.args.f.now c.put_urid.new.f 0 SET first
          (filled_more c.args.f.now c.object.new.self c.put_urid.new.f 0 SET [] first h c.in_ok-put_urid.ensures.0 c.in_ok-put_urid.ensures.1),
    )

pub returns-in_err-put_property : goal.returns-in_err-put_property
returns-in_err-put_property c =
    let first = part_of (keyed PROPERTY 0) (urid_value c.args.property) in
    let next = part_of (keyed VALUE 0) (value_of c.args.value.now) in
    let second = part (keyed VALUE 0) (value_of c.args.value.now) none in
    let all = part (keyed PROPERTY 0) (urid_value c.args.property) second in
    let p = err_from_is_err_and c.from_residual-in_err-put_property.result c.from_residual-in_err-put_property.ensures.1 in
    let h = begins c.args.f.now c.object.new.self 0 SET c.in_ok-object.ensures.0 c.in_ok-object.ensures.1 in
    let g = filled_more c.args.f.now c.object.new.self c.put_urid.new.f 0 SET [] first h c.in_ok-put_urid.ensures.0 c.in_ok-put_urid.ensures.1 in
    tries_fail c.args.f.now c.put_property.new.f (atom_of (set_object c.args.property c.args.value.now)) c.from_residual-in_err-put_property.result _ p.1
    (filling_fails c.args.f.now c.put_urid.new.f c.put_property.new.f 0 SET first next (length (atom_of (set_object c.args.property c.args.value.now))) g
    c.in_err-put_property.ensures.0 c.in_err-put_property.ensures.1
    (omega (arith, object_length 0 SET all, length-append first (parts_of second), length-append next [])))

pub pop-requires : goal.pop-requires
pop-requires c =
    let first = part_of (keyed PROPERTY 0) (urid_value c.args.property) in
    let next = part_of (keyed VALUE 0) (value_of c.args.value.now) in
    let h = begins c.args.f.now c.object.new.self 0 SET c.in_ok-object.ensures.0 c.in_ok-object.ensures.1 in
    let g = filled_more c.args.f.now c.object.new.self c.put_urid.new.f 0 SET [] first h c.in_ok-put_urid.ensures.0 c.in_ok-put_urid.ensures.1 in
    filling_complete c.args.f.now c.put_property.new.f 0 SET (first ++ next)
    (filled_more c.args.f.now c.put_urid.new.f c.put_property.new.f 0 SET first next g c.in_ok-put_property.ensures.0 c.in_ok-put_property.ensures.1)

pub returns : goal.returns
returns c =
    let first = part_of (keyed PROPERTY 0) (urid_value c.args.property) in
    let next = part_of (keyed VALUE 0) (value_of c.args.value.now) in
    let all = part (keyed PROPERTY 0) (urid_value c.args.property) (part (keyed VALUE 0) (value_of c.args.value.now) none) in
    let h = begins c.args.f.now c.object.new.self 0 SET c.in_ok-object.ensures.0 c.in_ok-object.ensures.1 in
    let g = filled_more c.args.f.now c.object.new.self c.put_urid.new.f 0 SET [] first h c.in_ok-put_urid.ensures.0 c.in_ok-put_urid.ensures.1 in
    let k = filled_more c.args.f.now c.put_urid.new.f c.put_property.new.f 0 SET first next g c.in_ok-put_property.ensures.0 c.in_ok-put_property.ensures.1 in
    let done = filling_closes c.args.f.now c.put_property.new.f 0 SET all
    (filling_as c.args.f.now c.put_property.new.f 0 SET (first ++ next) (parts_of all) (sym (ap (λ (b : List ℕ). first ++ b) (append-nil next))) k) in
    (done.0, c.pop.ensures ∙ done.1)
