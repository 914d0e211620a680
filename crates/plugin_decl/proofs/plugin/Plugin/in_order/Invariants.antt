use Rattle.std.proofs.Common.{◌≡◌}
use Rattle.std.specs.List.{filter_map, range_with_len}
use Rattle.plugin_decl.specs.Declaration.{port_at}
use Rattle.plugin_decl.proofs.plugin.Plugin.in_order.Given as goal

-- the ports of the indexes so far
abbrev pub invariant-loop-i : goal.invariant-loop-i
invariant-loop-i l = l.ordered ≡ filter_map (port_at l.self.store.now l.self.term.now) (range_with_len 0 l.i)
