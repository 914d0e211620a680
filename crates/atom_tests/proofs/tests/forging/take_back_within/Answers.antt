use Rattle.std.proofs.Common.{◌∷◌, [], refl, arith}
use Rattle.atom_core.specs.Form.{form_of}
use Rattle.atom_core.specs.Value.{plain, other}
use Rattle.atom_forge.specs.Laws.{IsMarkOf}
use Rattle.atom_forge.proofs.Stacks.{back_forged, extends_itself, extends_piece, extends_container}
use Rattle.atom_tests.proofs.tests.forging.take_back_within.Goals as goal

pub raw-requires-clause-body : goal.raw-requires-clause-body
unfolding form_of
raw-requires-clause-body c = ∣ (plain (other 11 (1 ∷ 2 ∷ 3 ∷ [])), refl, refl, ((omega arith, refl), omega arith)) ∣₁

pub back-requires : goal.back-requires
back-requires c =
    let before = c.raw.new.self in
    let mark : IsMarkOf c.mark-mark.result before = record { len = c.mark-mark.ensures.len; levels = c.mark-mark.ensures.levels; waits = c.mark-mark.ensures.waits } in
    let key = extends_piece before before c.key-2.new.self _ _ (extends_itself before before refl) c.in_ok-key-2.ensures.1 in
    let object = extends_container before c.key-2.new.self c.object-2.new.self _ _ key c.in_ok-object-2.ensures.1 in
    back_forged c.mark-mark.result before c.key-3.new.self mark c.mark-mark.ensures.forged
    (extends_piece before c.object-2.new.self c.key-3.new.self _ _ object c.in_ok-key-3.ensures.1)
