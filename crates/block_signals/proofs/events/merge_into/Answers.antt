use Rattle.std.proofs.Common.{◌≡◌, ◌-◌, List, ◌∷◌, map, sym, ap, subst, ◌∙◌}
use Rattle.std.specs.List.{All}
use Rattle.plug_api.specs.Sequences.{AreEventBytes}
use Rattle.session_play.specs.EventBytes.{events_at}
use Rattle.event_signals.specs.Merging.{sequence_of}
use Rattle.atom_sequence.specs.Event.{Event}
use Rattle.atom_sequence.specs.Merge.{merged}
use Rattle.block_signals.specs.Merging.{bytes_in, events_heard, lists_at}
use Rattle.block_signals.proofs.Merges.{timed_of, read_of}
use Rattle.block_signals.proofs.events.merge_into.Goals as goal

pub put_merged-requires-clause-timed : goal.put_merged-requires-clause-timed
put_merged-requires-clause-timed c =
    let are : map bytes_in c.put_lists.new.lists ≡ lists_at c.args.outlets.now c.args.messages.now c.args.port c.args.sources.now =
    c.put_lists.ensures ∙ (λ t. c.messages_at-first.ensures t ∷ map (events_heard c.args.outlets.now) (c.sources_left-heard.ensures t)) in
    let timed = c.requires.timed in
    (timed.0, timed_of timed.0 c.put_lists.new.lists (subst (All (AreEventBytes timed.0)) (sym are) timed.1))

pub returns : goal.returns
returns c =
    let are : map bytes_in c.put_lists.new.lists ≡ lists_at c.args.outlets.now c.args.messages.now c.args.port c.args.sources.now =
    c.put_lists.ensures ∙ (λ t. c.messages_at-first.ensures t ∷ map (events_heard c.args.outlets.now) (c.sources_left-heard.ensures t)) in
    c.put_merged.ensures.events
    ∙ ap (λ (all : List (List Event)). sequence_of c.args.forge.now.room (merged (c.args.forge.now.room - 16) all)) (read_of c.put_lists.new.lists ∙ ap (map events_at) are)
