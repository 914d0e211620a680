use Rattle.std.proofs.Common.{◌≡◌, length}
use Rattle.step_law.specs.declared.actor.Actor.TheVariants.{Control}
use Rattle.step_law.specs.declared.call.Call.TheVariants.{Activate}
use Rattle.replay_core.specs.Each.{each}
use Rattle.replay_core.specs.PlainRecord.{called}
use Rattle.replay_core.specs.Play.{meaning_of}
use Rattle.replay_core.specs.Run.{Plays}
use Rattle.replay_core.proofs.run.Run.activate_all.Given as goal

-- what was done so far
abbrev pub invariant-loop-inst : goal.invariant-loop-inst
invariant-loop-inst g l = record {
  plays : Plays (meaning_of g.C.Codes.make_of g.C.Front.Front.activate_of g.C.Front.Front.run_of g.C.Front.Front.deactivate_of) g.C.Front.Front.uri_of l.session l.fn.self l.self (each l.inst (called Control Activate));
  made : length l.self.fronts.items ≡ length l.session.insts;
}
