-- The fields of a merger.
use Rattle.std.specs.Prelude.{◌≡◌, ◌≤◌, ℕ, List, length, map, take}
use Rattle.atom_sequence.specs.declared.merger.Merger.TheInside.{Inside}
use Rattle.atom_sequence.specs.Cursors.{bytes_of}

abbrev pub views_of : Inside → List (List ℕ)
views_of merger = map bytes_of (take merger.count merger.views)

-- no more are held than there are places
pub record IsSound (merger : Inside) : Type 0 where
  pub places : length merger.views ≡ 257
  pub count : merger.count ≤ 257
