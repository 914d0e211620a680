use Rattle.std.proofs.Common.{◌≡◌, ◌+◌, ◌*◌, ◌≤◌, List}
use Rattle.atom_forge.specs.Forged.{left}
use Rattle.atom_sequence.specs.Event.{Event}
use Rattle.atom_sequence.specs.Views.{AwaitsEvent}
use Rattle.atom_sequence.specs.Cursors.{HaveLeft, EachNeverFalls, IsMerging}
use Rattle.atom_sequence.proofs.merger.merge.Given as goal

abbrev pub invariant-loop-place : goal.invariant-loop-place
invariant-loop-place l = record {
  awaits : AwaitsEvent l.into;
  room : l.into.room ≡ l.initial.into.room;
  few : 16 * l.written + left l.into ≤ l.into.room;
  have : ∥ ((lists : List (List Event)) × HaveLeft l.cursors lists) ∥₁;
  merging : (all : List (List Event)) → HaveLeft l.initial.cursors all → EachNeverFalls all → IsMerging all l.initial.into l.into l.cursors l.written;
}

abbrev pub decreases-loop-place : goal.decreases-loop-place
decreases-loop-place l = left l.into
