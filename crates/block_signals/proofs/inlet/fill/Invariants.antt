use Rattle.std.proofs.Common.{◌≡◌, length}
use Rattle.block_signals.proofs.Filling.{Fills}
use Rattle.block_signals.proofs.inlet.fill.Given as goal

abbrev pub invariant-loop-port : goal.invariant-loop-port
invariant-loop-port l = record {
  room : length l.sums ≡ l.initial.ins.frames;
  fills : Fills l.initial.ins.frames l.initial.ins l.ins l.outlets l.inputs l.port;
}
