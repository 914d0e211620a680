use Rattle.std.proofs.Common.{◌≡◌, length}
use Rattle.replay_core.specs.Each.{each}
use Rattle.replay_core.specs.PlainRecord.{cycle}
use Rattle.replay_core.specs.Play.{meaning_of}
use Rattle.replay_core.specs.Run.{Plays}
use Rattle.replay_core.proofs.run.Run.play_all.Given as goal

-- what was done so far
abbrev pub invariant-loop-block : goal.invariant-loop-block
invariant-loop-block g l = record {
  plays : Plays (meaning_of g.C.Codes.make_of g.C.Front.Front.activate_of g.C.Front.Front.run_of g.C.Front.Front.deactivate_of) g.C.Front.Front.uri_of l.session l.fn.self l.self (each l.block (cycle (length l.session.insts)));
  made : length l.self.fronts.items ≡ length l.session.insts;
}
