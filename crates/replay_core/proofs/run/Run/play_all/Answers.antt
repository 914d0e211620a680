use Rattle.std.proofs.Common.{length}
use Rattle.replay_core.specs.PlainRecord.{cycle}
use Rattle.replay_core.proofs.RunLemmas.{Plays-none, Plays-more}
use Rattle.replay_core.proofs.run.Run.play_all.Goals as goal

pub loop-block-init : goal.loop-block-init
loop-block-init g c = record {
  plays = Plays-none _ _ _ _ c.requires.running;
  made = c.requires.made;
}

pub loop-block-preserved : goal.loop-block-preserved
loop-block-preserved g c = record {
  plays = Plays-more c.loop-block.block (cycle (length c.args.session.now.insts)) c.loop-block.invariant.plays c.in_ok-play.ensures.plays;
  made = c.in_ok-play.ensures.made;
}
