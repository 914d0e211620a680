use Rattle.std.proofs.Common.{◌∷◌, [], length, Contains, ap, subst, arith, length-append}
use Rattle.triple_store.specs.Late.{AreLate}
use Rattle.triple_store.proofs.Indexed.{front_of}
use Rattle.triple_store.proofs.Lates.{fewer-late, late-row, late-added}
use Rattle.triple_store.proofs.store.keep.Goals as goal

pub add-requires-clause-few : goal.add-requires-clause-few
add-requires-clause-few c =
    let whole = c.in-Some.ensures.cases.0 in
    let old : AreLate c.args.late.now c.in-Some.front.now = subst (AreLate c.args.late.now) (front_of c.args.rows.now c.in-Some.front.now c.in-Some.row.now whole) c.requires.late in
    omega (arith, ap length old.kept, fewer-late [] c.in-Some.front.now, ap length whole, length-append c.in-Some.front.now (c.in-Some.row.now ∷ []), c.requires.few)

pub add-requires-clause-new : goal.add-requires-clause-new
add-requires-clause-new c =
    let whole = c.in-Some.ensures.cases.0 in
    let old : AreLate c.args.late.now c.in-Some.front.now = subst (AreLate c.args.late.now) (front_of c.args.rows.now c.in-Some.front.now c.in-Some.row.now whole) c.requires.late in
    λ there. (c.requires.new c.in-Some.front.now c.in-Some.row.now whole).0 (late-row c.in-Some.front.now c.in-Some.row.now (subst (λ rows. Contains rows c.in-Some.row.now) old.kept there))

pub returns-clause-late : goal.returns-clause-late
returns-clause-late c =
    let whole = c.in-Some.ensures.cases.0 in
    let old : AreLate c.args.late.now c.in-Some.front.now = subst (AreLate c.args.late.now) (front_of c.args.rows.now c.in-Some.front.now c.in-Some.row.now whole) c.requires.late in
    late-added c.args.late.now c.add.new.self c.in-Some.front.now c.args.rows.now c.in-Some.row.now c.args.is_late old whole (c.requires.new c.in-Some.front.now c.in-Some.row.now whole).1 c.in_ok-add.ensures.rows c.in_ok-add.ensures.counts
