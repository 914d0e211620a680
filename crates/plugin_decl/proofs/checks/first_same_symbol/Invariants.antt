use Rattle.std.proofs.Common.{◌≡◌, ℕ, ◌<◌, false}
use Rattle.plugin_decl.specs.Rules.{repeats_symbol}
use Rattle.plugin_decl.proofs.checks.first_same_symbol.Given as goal

-- no port so far has the symbol of one before it
abbrev pub invariant-loop-i : goal.invariant-loop-i
invariant-loop-i l = (k : ℕ) → k < l.i → repeats_symbol l.ports k ≡ false
