use Rattle.std.proofs.Common.{sym, ap, ◌∙◌, arith}
use Rattle.atom_sequence.specs.Cursors.{time_of}
use Rattle.atom_sequence.proofs.Picks.{time_at_is}
use Rattle.atom_sequence.proofs.cursor.earliest.Goals as goal

pub loop-place-preserved : goal.loop-place-preserved
loop-place-preserved c =
    c.earlier-best.ensures c.args.cursors.now c.loop-place.invariant
    (time_at_is c.args.cursors.now c.loop-place.place c.index-cursors-place.result (omega arith) ∙ ap time_of (sym c.index-cursors-place.is) ∙ sym c.time.ensures)
