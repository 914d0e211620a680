use Rattle.std.proofs.Common.{[], length, ◌∙◌, arith}
use Rattle.std.proofs.lemmas.List.{get_or-replicate}
use Rattle.audio_api.specs.Sound.{silence}
use Rattle.replay_core.specs.Play.{silent_signals}
use Rattle.step_law.specs.declared.actor.Actor.TheVariants.{Audio}
use Rattle.step_law.specs.declared.call.Call.TheVariants.{Run}
use Rattle.replay_core.specs.PlainRecord.{called}
use Rattle.replay_core.proofs.RunLemmas.{Plays-none, Plays-more, get_or-same_drop, drop-same_more}
use Rattle.replay_core.proofs.run.Run.run_all.Goals as goal

pub loop-inst-init : goal.loop-inst-init
loop-inst-init g c = record {
  plays = Plays-none _ _ _ _ c.requires.running;
  made = c.requires.made;
  quiet = c.requires.silent;
}

pub loop-inst-preserved : goal.loop-inst-preserved
loop-inst-preserved g c = record {
  plays = Plays-more c.loop-inst.inst (called Audio Run) c.loop-inst.invariant.plays c.in_ok-run.ensures.plays;
  made = c.in_ok-run.ensures.as_many ∙ c.loop-inst.invariant.made;
  quiet = c.in_ok-run.ensures.others ∙ drop-same_more c.loop-inst.self.desk.outs.blocks (silent_signals c.args.session.now) c.loop-inst.inst c.loop-inst.invariant.quiet;
}

-- the two arguments after c are of lifetimes
pub run-requires-clause-silent : goal.run-requires-clause-silent
run-requires-clause-silent g c _ _ =
    let s = c.args.session.now in
    let i = c.loop-inst.inst in
    get_or-same_drop c.loop-inst.self.desk.outs.blocks (silent_signals s) i [] c.loop-inst.invariant.quiet
    ∙ get_or-replicate (length s.insts) i (silence s.block) [] (omega (arith, c.len-inst-end.ensures, c.loop-inst-test.true))
