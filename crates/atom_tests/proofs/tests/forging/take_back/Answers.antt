use Rattle.std.proofs.Common.{refl}
use Rattle.atom_forge.specs.Laws.{IsMarkOf}
use Rattle.atom_forge.proofs.Stacks.{back_forged, extends_itself, extends_piece}
use Rattle.atom_tests.proofs.tests.forging.take_back.Goals as goal

pub back-requires : goal.back-requires
back-requires c =
    let before = c.sequence.new.self in
    let mark : IsMarkOf c.mark-mark.result before = record { len = c.mark-mark.ensures.len; levels = c.mark-mark.ensures.levels; waits = c.mark-mark.ensures.waits } in
    back_forged c.mark-mark.result before c.event.new.self mark c.mark-mark.ensures.forged
    (extends_piece before before c.event.new.self _ _ (extends_itself before before refl) c.in_ok-event.ensures.1)
