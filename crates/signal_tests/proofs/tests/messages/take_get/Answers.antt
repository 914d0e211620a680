use Rattle.std.proofs.Common.{[], refl}
use Rattle.atom_core.specs.Spelling.{u32}
use Rattle.block_signals.specs.Board.{with_action}
use Rattle.signal_tests.proofs.Sent.{get, getting, get_fits}
use Rattle.signal_tests.proofs.tests.messages.take_get.Goals as goal

pub take_message-requires-clause-atom : goal.take_message-requires-clause-atom
unfolding u32
take_message-requires-clause-atom c = (get, (get_fits, refl))

pub returns : goal.returns
unfolding u32
returns c =
    let holds = c.requires.holds in
    (with_action [] holds.0 getting, c.take_message.ensures c.args.setup.now holds.0 [] getting get holds.1 refl refl (get_fits, refl))
