use Rattle.std.proofs.Common.{List, ℕ, sym, subst}
use Rattle.atom_core.specs.Value.{sequence, holding}
use Rattle.atom_core.specs.Atoms.{SpellEvents}
use Rattle.atom_sequence.specs.Event.{as_parts}
use Rattle.atom_sequence.proofs.cursor.Cursor.of.Goals as goal

pub returns-in-Some : goal.returns-in-Some
returns-in-Some c = λ events spells.
    c.over.ensures events
    (subst (λ (b : List ℕ). SpellEvents b (as_parts events)) (sym c.bytes.ensures.value) (c.in-Some.ensures (holding sequence (as_parts events)) spells))

pub returns-in-None : goal.returns-in-None
returns-in-None c = λ events spells. absurd (c.in-None.ensures (holding sequence (as_parts events)) spells)
