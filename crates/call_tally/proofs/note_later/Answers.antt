use Rattle.std.proofs.Common.{arith}
use Rattle.record_terms.specs.Message.{meaning_of}
use Rattle.call_tally.proofs.Noting.{noted_one_more, all_noted}
use Rattle.call_tally.proofs.note_later.Goals as goal

pub loop-entry-preserved : goal.loop-entry-preserved
loop-entry-preserved c =
    noted_one_more c.args.entries.now c.loop-entry.entry-index _ (meaning_of c.message_in.result) c.args.tally.now c.loop-entry.tally c.note.new.self
    (omega (c.loop-entry-test.true, arith)) c.loop-entry.invariant c.message_in.ensures c.note.ensures

pub returns : goal.returns
returns c =
    all_noted c.args.entries.now c.loop-entry.entry-index c.args.tally.now c.loop-entry.tally (omega (c.loop-entry-test.false, arith)) c.loop-entry.invariant
