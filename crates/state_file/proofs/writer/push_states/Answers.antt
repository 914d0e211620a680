use Rattle.std.proofs.Common.{◌∙◌}
use Rattle.state_file.proofs.StatesText.{states_more}
use Rattle.state_file.proofs.writer.push_states.Goals as goal

pub loop-number-preserved : goal.loop-number-preserved
loop-number-preserved c =
    states_more c.args.urids.now c.args.saves.now c.loop-number.number c.index-saves-number.result c.loop-number.text c.push_saved.new.text c.loop-number-test.true c.index-saves-number.is
    c.in_ok-push_saved.ensures
    ∙ c.loop-number.invariant
