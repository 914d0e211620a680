use Rattle.std.proofs.Common.{◌≡◌, ◌+◌, ◌++◌, length}
use Rattle.session_play.specs.SessionShape.{insts_from}
use Rattle.setup_shape.proofs.insts_of.Given as goal

-- those that are left come after those so far
abbrev pub invariant-loop-it : goal.invariant-loop-it
invariant-loop-it l =
    (l.insts ++ insts_from l.fn.setup l.inst l.later ≡ insts_from l.fn.setup 0 l.fn.setup.session.insts)
    × (l.inst + length l.later ≡ length l.fn.setup.session.insts)

abbrev pub decreases-loop-it : goal.decreases-loop-it
decreases-loop-it l = length l.later
