use Rattle.std.proofs.Common.{[], refl}
use Rattle.atom_core.specs.Spelling.{u32, i32}
use Rattle.block_signals.specs.Board.{with_action}
use Rattle.signal_tests.proofs.Sent.{set, setting, set_fits}
use Rattle.signal_tests.proofs.tests.messages.take_set.Goals as goal

pub take_message-requires-clause-atom : goal.take_message-requires-clause-atom
unfolding u32 i32
take_message-requires-clause-atom c = (set, (set_fits, refl))

pub returns : goal.returns
unfolding u32 i32
returns c =
    let holds = c.requires.holds in
    (with_action [] holds.0 setting, c.take_message.ensures c.args.setup.now holds.0 [] setting set holds.1 refl refl (set_fits, refl))
