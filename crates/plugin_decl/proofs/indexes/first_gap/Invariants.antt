use Rattle.std.proofs.Common.{◌≡◌, ℕ, ◌<◌, true}
use Rattle.std.specs.List.{list_any}
use Rattle.plugin_decl.specs.Declaration.{is_index}
use Rattle.plugin_decl.proofs.indexes.first_gap.Given as goal

-- each index so far stands
abbrev pub invariant-loop-i : goal.invariant-loop-i
invariant-loop-i l = (k : ℕ) → k < l.i → list_any (is_index k) l.indexes ≡ true
