use Rattle.std.proofs.Common.{All}
use Rattle.plugin_decl.specs.Valid as decl
use Rattle.signal_tests.proofs.tests.setups.decls.Given as goal

abbrev pub invariant-loop : goal.invariant-loop
invariant-loop l = All decl.IsValid l.decls
