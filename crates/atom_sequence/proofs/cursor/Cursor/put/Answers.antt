use Rattle.std.proofs.Common.{ℤ, Option, subst}
use Rattle.std.proofs.Math.Logic.{∥∥₁_map}
use Rattle.atom_core.specs.declared.view.AtomView.{AtomView}
use Rattle.atom_core.specs.Iterating.{TakesEvent}
use Rattle.atom_sequence.specs.Event.{as_parts}
use Rattle.atom_sequence.proofs.Putting.{is_first}
use Rattle.atom_sequence.proofs.cursor.Cursor.put.Goals as goal

pub put_event-requires-clause-atom : goal.put_event-requires-clause-atom
put_event-requires-clause-atom c =
    ∥∥₁_map c.requires.left (λ x.
    let takes = subst (λ (o : Option (ℤ × AtomView)). TakesEvent (as_parts x.0) o c.args.self.rest.now) c.in-Some.is (x.1.1) in
    let first = is_first x.0 (c.in-Some.time, c.in-Some.atom) c.args.self.rest.now (x.1.0) takes in
    (first.e.value, (first.fits, first.spells.bytes_are)))

pub over-requires : goal.over-requires
over-requires c =
    ∥∥₁_map c.requires.left (λ x.
    let takes = subst (λ (o : Option (ℤ × AtomView)). TakesEvent (as_parts x.0) o c.args.self.rest.now) c.in-Some.is (x.1.1) in
    let first = is_first x.0 (c.in-Some.time, c.in-Some.atom) c.args.self.rest.now (x.1.0) takes in
    (as_parts first.others, first.rest_is))
