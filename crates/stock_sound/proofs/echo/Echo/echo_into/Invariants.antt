use Rattle.std.proofs.Common.{◌≡◌, ◌++◌, take, drop}
use Rattle.stock_sound.specs.Echo.{echoed, past_after}
use Rattle.stock_sound.proofs.echo.Echo.echo_into.Given as goal

-- the echo up to this frame was given, and the rest is that of what is left
abbrev pub invariant-loop-frame : goal.invariant-loop-frame
invariant-loop-frame l = record {
  sound : echoed l.feedback l.fn.self l.input ≡ take l.frame l.out ++ echoed l.feedback l.self (drop l.frame l.input);
  past : past_after l.feedback l.fn.self l.input ≡ past_after l.feedback l.self (drop l.frame l.input);
}
