-- How the cells of a closed table are emptied.
use Rattle.std.specs.Prelude.{◌≡◌, ℕ, zero, suc, ◌+◌, ◌*◌, ◌%◌, ◌<◌, ◌≤◌, Bool, false, List, [], ◌++◌, Option, None, slice_index, slice_index_or}
use mathlib.Core.Option.{some}
use lib.ListN.{get_elem?}
use Rattle.std.specs.Mem.Slots.Ownership.{SameOutside}
use Rattle.std.specs.Option.{option_to_list}
use Rattle.cable_ring.specs.Cells.{slot}
use Rattle.cable_ring.specs.Rule.{head_word}

-- the messages in so many cells of a ring, from the cell of the message with this number on
abbrev pub found_in : {M : Type 0} → List (Option M) → (cells ring number count : ℕ) → List M
found_in slots cells ring number zero = []
found_in slots cells ring number (suc count) = found_in slots cells ring number count ++ option_to_list (slice_index_or slots (slot cells ring (number + count)) None)

-- the cells of a ring are taken out of the table, and no others
pub record IsEmptied (cells ring : ℕ) (old new : List Bool) : Type 0 where
  pub here : (place : ℕ) → ring * cells ≤ place → place < ring * cells + cells → slice_index_or new place false ≡ false
  pub others : SameOutside false old new (ring * cells) (ring * cells + cells)

-- a list has what was found of a ring, from its head on
abbrev pub IsFoundAt : {M : Type 0} → List ℕ → List (Option M) → (cells ring : ℕ) → List M → Type 0
IsFoundAt words slots cells ring row = row ≡ found_in slots cells ring (slice_index words (head_word ring) % cells) cells
