use Rattle.std.proofs.Common.{◌≡◌, ◌++◌, drop}
use Rattle.std.specs.List.{filter_map}
use Rattle.session_states.specs.Restores.{restore_of}
use Rattle.session_states.proofs.wanted.add_restores.Given as goal

-- the restores so far, and those that the actions left bring
abbrev pub invariant-loop-action : goal.invariant-loop-action
invariant-loop-action l =
    l.restores ++ filter_map (restore_of l.insts) (drop l.action-index l.actions) ≡ l.initial.restores ++ filter_map (restore_of l.insts) l.actions
