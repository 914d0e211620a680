use Rattle.std.proofs.Common.{pos, refl}
use Rattle.atom_core.specs.Spelling.{u32, i32}
use Rattle.atom_core.specs.Value.{int, plain}
use Rattle.signal_tests.proofs.Sent.{three_fits, three_put}
use Rattle.signal_tests.proofs.tests.messages.write_three.Goals as goal

pub over-requires : goal.over-requires
unfolding u32 i32
over-requires c = ∣ (plain (int (pos 3)), record { fits = three_fits 16; bytes_are = refl }) ∣₁

pub put_event-requires-clause-atom : goal.put_event-requires-clause-atom
unfolding u32 i32
put_event-requires-clause-atom c = ∣ (plain (int (pos 3)), (three_fits 15, c.over.ensures)) ∣₁

pub returns : goal.returns
unfolding u32 i32
returns c = three_put c.args.forge.now c.put_event.new.into c.put_event.result c.requires (c.put_event.ensures.event (plain (int (pos 3))) (three_fits 15, c.over.ensures))
