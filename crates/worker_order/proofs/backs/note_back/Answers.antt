use Rattle.std.proofs.Common.{◌≤◌, ◌∷◌, length, sym, subst, arith}
use Rattle.record_law.specs.Message.{Step, History}
use Rattle.worker_order.specs.Backs.{AreBacks}
use Rattle.record_terms.specs.Message.{meaning_of}
use Rattle.worker_order.proofs.BackTables.{noted_inside, noted_outside}
use Rattle.worker_order.proofs.backs.note_back.Goals as goal

pub returns-then-inst-len-clause-noted : goal.returns-then-inst-len-clause-noted
returns-then-inst-len-clause-noted c =
    let x : Step = record { entry = c.args.entry; about = meaning_of c.args.about } in
    let worker = c.args.worker in
    λ (h : History) are.
    subst (λ backs. AreBacks worker backs (x ∷ h)) (sym c.set.ensures) (noted_inside worker c.args.backs.now x c.in-Some.moved c.in-Some.ensures h are)

pub returns-else-inst-len-clause-noted : goal.returns-else-inst-len-clause-noted
returns-else-inst-len-clause-noted c =
    let x : Step = record { entry = c.args.entry; about = meaning_of c.args.about } in
    let past : length c.args.backs.now ≤ c.in-Some.moved.inst = omega arith in
    λ (h : History) are. noted_outside c.args.worker c.args.backs.now x c.in-Some.moved c.in-Some.ensures past h are
