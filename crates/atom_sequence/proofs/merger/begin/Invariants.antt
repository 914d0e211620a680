use Rattle.std.proofs.Common.{ℕ, ◌<◌, List, get_or}
use Rattle.atom_core.specs.declared.view.AtomView.{AtomView}
use Rattle.atom_sequence.specs.declared.cursor.Cursor.{Cursor}
use Rattle.atom_sequence.specs.Event.{Event, SpellSequence}
use Rattle.atom_sequence.specs.Cursors.{bytes_of, HasLeft}
use Rattle.atom_sequence.proofs.merger.begin.Given as goal

-- the cursors so far stand at the first events of their views
abbrev pub invariant-loop-place : goal.invariant-loop-place
invariant-loop-place l =
    (k : ℕ) → k < l.place → (v : AtomView) (d : Cursor) (events : List Event) → SpellSequence (bytes_of (get_or l.views k v)) events → HasLeft (get_or l.cursors k d) events
