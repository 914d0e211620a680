use Rattle.std.proofs.Common.{◌≤◌, ◌∷◌, length, sym, subst, arith}
use Rattle.record_law.specs.Message.{Step, History}
use Rattle.audio_order.specs.Fronts.{AreFronts}
use Rattle.record_terms.specs.Message.{meaning_of}
use Rattle.audio_order.proofs.FrontTables.{noted_inside, noted_outside}
use Rattle.audio_order.proofs.fronts.note_front.Goals as goal

pub returns-then-inst-len-clause-noted : goal.returns-then-inst-len-clause-noted
returns-then-inst-len-clause-noted c =
    let x : Step = record { entry = c.args.entry; about = meaning_of c.args.about } in
    λ (h : History) are. subst (λ places. AreFronts places (x ∷ h)) (sym c.set.ensures) (noted_inside c.args.fronts.now x c.in-Some.moved c.in-Some.ensures h are)

pub returns-else-inst-len-clause-noted : goal.returns-else-inst-len-clause-noted
returns-else-inst-len-clause-noted c =
    let x : Step = record { entry = c.args.entry; about = meaning_of c.args.about } in
    let past : length c.args.fronts.now ≤ c.in-Some.moved.inst = omega arith in
    λ (h : History) are. noted_outside c.args.fronts.now x c.in-Some.moved c.in-Some.ensures past h are
