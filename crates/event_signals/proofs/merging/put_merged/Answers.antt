use Rattle.std.proofs.Common.{ap, sym, subst, ◌∙◌}
use Rattle.std.proofs.Math.Logic.{∥∥₁_map}
use Rattle.atom_forge.specs.Forged.{Forged}
use Rattle.atom_sequence.specs.Merge.{merged}
use Rattle.atom_sequence.specs.Views.{with_events}
use Rattle.atom_forge.specs.Forged.{left}
use Rattle.plug_api.specs.Sequences.{IsSequence}
use Rattle.event_signals.proofs.Sequenced.{merged_is, merged_sequence}
use Rattle.event_signals.proofs.merging.put_merged.Goals as goal

pub merge_lists-requires-clause-spelled : goal.merge_lists-requires-clause-spelled
merge_lists-requires-clause-spelled c = λ k d lt. ∥∥₁_map (c.requires.timed.1 k d lt) (λ x. (x.0, x.1))

pub returns-clause-events : goal.returns-clause-events
returns-clause-events c =
    c.pop.ensures
    ∙ merged_is c.args.into.now.room c.args.lists.now c.requires.timed.0 c.merge_lists.new.into c.requires.timed.1
    (λ all hold falls.
    c.merge_lists.ensures.events all hold falls ∙ ap (λ (f : Forged). with_events f (merged (left f) all)) c.begin_sequence.ensures)

pub returns-clause-sequence : goal.returns-clause-sequence
returns-clause-sequence c = λ frames are small.
    let whole = c.pop.ensures
    ∙ merged_is c.args.into.now.room c.args.lists.now frames c.merge_lists.new.into are
    (λ all hold falls.
    c.merge_lists.ensures.events all hold falls ∙ ap (λ (f : Forged). with_events f (merged (left f) all)) c.begin_sequence.ensures) in
    subst (IsSequence frames) (sym whole) (merged_sequence c.args.into.now.room c.args.lists.now frames are c.requires.room small)
