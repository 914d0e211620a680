use Rattle.std.proofs.Common.{◌≡◌, ◌++◌, take}
use Rattle.std.specs.List.{flat_map}
use Rattle.triple_list.specs.Listing.{triple_line}
use Rattle.triple_list.proofs.listing.push_listing.Given as goal

-- the lines of the triples so far
abbrev pub invariant-loop-row : goal.invariant-loop-row
invariant-loop-row l = l.into ≡ l.fn.into ++ flat_map triple_line (take l.row-index l.rows)
