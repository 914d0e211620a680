use Rattle.std.proofs.Common.{◌≡◌, ℕ, ◌<◌, false, count_by, nat_lt}
use Rattle.plugin_decl.specs.Declaration.{is_index}
use Rattle.plugin_decl.proofs.indexes.first_repeated.Given as goal

-- no index so far stands twice
abbrev pub invariant-loop-i : goal.invariant-loop-i
invariant-loop-i l = (k : ℕ) → k < l.i → nat_lt 1 (count_by (is_index k) l.indexes) ≡ false
