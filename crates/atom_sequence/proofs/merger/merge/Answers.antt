use Rattle.std.proofs.Common.{List, ◌∷◌, sym, ap, ◌∙◌, subst, arith}
use Rattle.std.proofs.Math.Logic.{∥∥₁_map}
use Rattle.atom_forge.specs.Forged.{left}
use Rattle.atom_sequence.specs.declared.cursor.Cursor.{Cursor}
use Rattle.atom_sequence.specs.Event.{Event}
use Rattle.atom_sequence.specs.Merge.{in_order, cut}
use Rattle.atom_sequence.specs.Cursors.{HasLeft, time_of}
use Rattle.atom_sequence.proofs.Picks.{pick, take_at, some_next, nothing_left, time_at_is}
use Rattle.atom_sequence.proofs.Merging.{cut_full, merge_more, end_merging}
use Rattle.atom_sequence.proofs.merger.merge.Goals as goal

pub put-requires-clause-some : goal.put-requires-clause-some
put-requires-clause-some c =
    let first = c.in-Some.ensures.1 in
    some_next c.index-cursors-place.result c.in-Some.ensures.0
    (ap time_of c.index-cursors-place.is ∙ sym (time_at_is c.loop-place.cursors c.in-Some.place c.index-cursors-place.result first.within) ∙ first.here)

pub put-requires-clause-left : goal.put-requires-clause-left
put-requires-clause-left c =
    ∥∥₁_map c.loop-place.invariant.have (λ h.
    let t = take_at c.loop-place.cursors h.0 c.in-Some.place c.in-Some.ensures.0 h.1 c.in-Some.ensures.1.here in
    (t.event ∷ t.others, subst (λ (x : Cursor). HasLeft x (t.event ∷ t.others)) (sym c.index-cursors-place.is) (t.left c.index-cursors-place.result)))

pub loop-place-smaller : goal.loop-place-smaller
loop-place-smaller c = omega (arith, c.in-Ok.ensures.less)

pub loop-place-preserved : goal.loop-place-preserved
loop-place-preserved c =
    let first = c.in-Some.ensures.1 in
    let known = c.loop-place.invariant in
    record {
      awaits = c.put.ensures.still;
      room = c.put.ensures.room ∙ known.room;
      few = omega (arith, known.few, c.in-Ok.ensures.less, c.put.ensures.room);
      have = ∥∥₁_map known.have (λ h.
          let t = take_at c.loop-place.cursors h.0 c.in-Some.place c.in-Some.ensures.0 h.1 first.here in
          let here = subst (λ (x : Cursor). HasLeft x (t.event ∷ t.others)) (sym c.index-cursors-place.is) (t.left c.index-cursors-place.result) in
          let put = c.in-Ok.ensures.first t.event t.others here in
          (t.after, t.goes c.in-Ok.next put.0));
      merging = λ all have falls.
          let m = known.merging all have falls in
          let p = pick c.loop-place.cursors m.lists c.in-Some.place c.in-Some.ensures.0 m.have m.fall first.here first.before first.all in
          let here = subst (λ (x : Cursor). HasLeft x (p.event ∷ p.others)) (sym c.index-cursors-place.is) (p.left c.index-cursors-place.result) in
          let put = c.in-Ok.ensures.first p.event p.others here in
          merge_more all c.args.into.now c.loop-place.into c.put.new.into c.loop-place.cursors c.loop-place.written c.in-Some.place c.in-Some.ensures.0 c.in-Ok.next m p put.0 put.1 put.2;
    }

pub returns-in-Err-clause-events : goal.returns-in-Err-clause-events
returns-in-Err-clause-events c = λ all have falls.
    let first = c.in-Some.ensures.1 in
    let m = c.loop-place.invariant.merging all have falls in
    let p = pick c.loop-place.cursors m.lists c.in-Some.place c.in-Some.ensures.0 m.have m.fall first.here first.before first.all in
    let here = subst (λ (x : Cursor). HasLeft x (p.event ∷ p.others)) (sym c.index-cursors-place.is) (p.left c.index-cursors-place.result) in
    let put = c.in-Err.ensures.first p.event p.others here in
    put.1 ∙ (end_merging all c.args.into.now c.loop-place.into c.loop-place.cursors c.loop-place.written m (ap (cut (left c.loop-place.into)) p.order ∙ cut_full _ p.event _ put.0)).forge_is

pub returns-in-Err-clause-count : goal.returns-in-Err-clause-count
returns-in-Err-clause-count c = λ all have falls.
    let first = c.in-Some.ensures.1 in
    let m = c.loop-place.invariant.merging all have falls in
    let p = pick c.loop-place.cursors m.lists c.in-Some.place c.in-Some.ensures.0 m.have m.fall first.here first.before first.all in
    let here = subst (λ (x : Cursor). HasLeft x (p.event ∷ p.others)) (sym c.index-cursors-place.is) (p.left c.index-cursors-place.result) in
    let put = c.in-Err.ensures.first p.event p.others here in
    (end_merging all c.args.into.now c.loop-place.into c.loop-place.cursors c.loop-place.written m (ap (cut (left c.loop-place.into)) p.order ∙ cut_full _ p.event _ put.0)).count

pub returns-in_default-clause-events : goal.returns-in_default-clause-events
returns-in_default-clause-events c = λ all have falls.
    let m = c.loop-place.invariant.merging all have falls in
    let none = nothing_left c.loop-place.cursors m.lists m.have c.in_default.ensures in
    (end_merging all c.args.into.now c.loop-place.into c.loop-place.cursors c.loop-place.written m (ap (λ (l : List Event). cut (left c.loop-place.into) (in_order l)) none)).forge_is

pub returns-in_default-clause-count : goal.returns-in_default-clause-count
returns-in_default-clause-count c = λ all have falls.
    let m = c.loop-place.invariant.merging all have falls in
    let none = nothing_left c.loop-place.cursors m.lists m.have c.in_default.ensures in
    (end_merging all c.args.into.now c.loop-place.into c.loop-place.cursors c.loop-place.written m (ap (λ (l : List Event). cut (left c.loop-place.into) (in_order l)) none)).count
