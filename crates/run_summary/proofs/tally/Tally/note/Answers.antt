use Rattle.record_terms.specs.Message.{meaning_of}
use Rattle.record_counts.specs.Step.{step_of}
use Rattle.run_summary.proofs.Going.{after_note}
use Rattle.run_summary.proofs.tally.Tally.note.Goals as goal

pub returns : goal.returns
returns c setup h failed less told =
    after_note setup h failed (step_of c.args.entry (meaning_of c.args.about)) less c.args.self.now c.note_whole.new.self c.note_inst.new.self c.note_input.new.self told c.note_whole.ensures.rest
    c.note_whole.ensures.lost c.note_whole.ensures.entries c.note_inst.ensures.each c.note_inst.ensures.all c.note_inst.ensures.rest c.note_input.ensures
