use Rattle.std.proofs.Common.{◌≡◌, ◌++◌, length}
use Rattle.step_law.specs.declared.actor.Actor.TheVariants.{Control}
use Rattle.step_law.specs.declared.call.Call.TheVariants.{Cleanup}
use Rattle.replay_core.specs.Each.{each}
use Rattle.replay_core.specs.PlainRecord.{called}
use Rattle.replay_core.proofs.phases.clean_up.Given as goal

-- the instances so far are cleaned up
abbrev pub invariant-loop-front : goal.invariant-loop-front
invariant-loop-front g l = record {
  count : l.inst ≡ length l.yielded;
  steps : l.steps ≡ l.fn.steps ++ each l.inst (called Control Cleanup);
}
