use Rattle.std.proofs.Common.{◌≡◌, take}
use Rattle.state_store.proofs.props.copy_all.Given as goal

-- the rows so far
abbrev pub invariant-loop-row : goal.invariant-loop-row
invariant-loop-row l = l.copies.items ≡ take l.row-index l.rows
