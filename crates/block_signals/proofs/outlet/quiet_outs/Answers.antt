use Rattle.block_signals.proofs.Outs.{fresh_quiet}
use Rattle.block_signals.proofs.outlet.quiet_outs.Goals as goal

pub returns : goal.returns
returns c = rw (c.silence.ensures, c.in_ok-outs.ensures, c.as_slice.ensures.value, c.in_ok-rooms.ensures, c.sounds_among.ensures, c.values_among.ensures) (fresh_quiet c.args.frames c.args.ports.now c.requires.rooms)
