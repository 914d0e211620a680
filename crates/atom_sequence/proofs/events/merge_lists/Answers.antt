use Rattle.std.proofs.Math.Logic.{∥∥₁_map}
use Rattle.atom_sequence.proofs.Listing.{some_events}
use Rattle.atom_sequence.proofs.events.merge_lists.Goals as goal

pub merge-requires-clause-left : goal.merge-requires-clause-left
merge-requires-clause-left c = ∥∥₁_map (some_events c.args.lists.now c.requires.spelled) (λ x. (x.0, c.begin.ensures x.0 x.1))

pub returns-clause-events : goal.returns-clause-events
returns-clause-events c = λ all hold falls. c.merge.ensures.events all (c.begin.ensures all hold) falls
