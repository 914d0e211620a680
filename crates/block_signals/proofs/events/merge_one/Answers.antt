use Rattle.std.proofs.Common.{List, sym, subst}
use Rattle.std.specs.List.{All}
use Rattle.plug_api.specs.Sequences.{AreEventBytes}
use Rattle.block_signals.specs.declared.source.Source.{Source}
use Rattle.block_signals.specs.Merging.{CanMerge, CanTake, lists_at}
use Rattle.block_signals.proofs.events.merge_one.Goals as goal

pub merge_into-requires-clause-timed : goal.merge_into-requires-clause-timed
merge_into-requires-clause-timed c =
    let can : CanMerge c.args.ins.now c.args.messages.now c.args.outlets.now c.args.port c.in-Events.sources =
    subst (CanTake c.args.ins.now c.args.messages.now c.args.outlets.now c.args.port) c.in-Events.is c.requires in (
      c.args.ins.now.frames,
      subst (λ (sources : List Source). All (AreEventBytes c.args.ins.now.frames) (lists_at c.args.outlets.now c.args.messages.now c.args.port sources))
          (sym c.as_slice.ensures) can.timed,
    )
