use Rattle.std.proofs.Common.{◌∙◌}
use Rattle.order_tests.proofs.tests.may_come.Goals as goal

pub step-requires-clause-brought : goal.step-requires-clause-brought
step-requires-clause-brought c = c.brought-brought.ensures.there c.args.shape.now c.requires.tracked.there

pub returns : goal.returns
returns c =
    let before = c.requires.tracked in
    record {
      tracked = c.step.ensures.tracker;
      there = c.note.ensures.there c.args.shape.now c.in-Some.ensures.about before.there;
      room = c.note.ensures.room 6 before.room;
      rings = c.note.ensures.count ∙ before.rings;
    }
