use Rattle.std.proofs.Common.{◌≤◌, length}
use Rattle.std.specs.Io.KnownBytes.{Consumes}
use Rattle.lv_outside.proofs.directory.read_all.Given as goal

abbrev pub invariant-loop : goal.invariant-loop
invariant-loop g l = Consumes (g.F.Read.remaining l.fn.file) (g.F.Read.remaining l.file) l.into × (length l.into ≤ l.most)
