use Rattle.std.proofs.Common.{drop}
use Rattle.patch_control.proofs.Rows.{Goes}
use Rattle.patch_control.proofs.writer.put_rows.Given as goal

-- the rows so far are written
abbrev pub invariant-loop-key : goal.invariant-loop-key
invariant-loop-key l = Goes l.fn.f l.fn.rows l.f (drop l.key-index l.rows)
