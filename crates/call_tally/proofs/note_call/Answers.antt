use Rattle.std.proofs.Common.{rules}
use Rattle.call_tally.proofs.Noting.{call_noted}
use Rattle.call_tally.proofs.note_call.Goals as goal

pub returns-in-Some : goal.returns-in-Some
returns-in-Some c setup h failed few tallies =
    call_noted c.args.entries.now c.in-Some.field-0-0.now c.in-Some.later.now (search rules) c.args.about c.args.tally.now c.note.new.self
    c.note_later.new.tally (search rules) (search rules) setup h failed few tallies
