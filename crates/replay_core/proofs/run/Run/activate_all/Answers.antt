use Rattle.std.proofs.Common.{◌∙◌}
use Rattle.step_law.specs.declared.actor.Actor.TheVariants.{Control}
use Rattle.step_law.specs.declared.call.Call.TheVariants.{Activate}
use Rattle.replay_core.specs.PlainRecord.{called}
use Rattle.replay_core.proofs.RunLemmas.{Plays-none, Plays-more}
use Rattle.replay_core.proofs.run.Run.activate_all.Goals as goal

pub loop-inst-init : goal.loop-inst-init
loop-inst-init g c = record {
  plays = Plays-none _ _ _ _ c.requires.running;
  made = c.requires.made;
}

pub loop-inst-preserved : goal.loop-inst-preserved
loop-inst-preserved g c = record {
  plays = Plays-more c.loop-inst.inst (called Control Activate) c.loop-inst.invariant.plays c.in_ok-activate.ensures.plays;
  made = c.in_ok-activate.ensures.as_many ∙ c.loop-inst.invariant.made;
}
