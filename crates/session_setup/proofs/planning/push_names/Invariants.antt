use Rattle.std.proofs.Common.{◌≡◌, ◌++◌, take}
use Rattle.std.specs.List.{filter_map}
use Rattle.session_setup.specs.Planning.{name_at}
use Rattle.session_setup.proofs.planning.push_names.Given as goal

-- the names so far
abbrev pub invariant-loop-inst : goal.invariant-loop-inst
invariant-loop-inst l = l.names ≡ l.initial.names ++ filter_map (name_at l.insts) (take l.inst-index l.cycle)
