use Rattle.std.proofs.Common.{refl, ap, sym, ◌∙◌, ◌++◌, ◌∷◌, []}
use Rattle.std.proofs.lemmas.List.{map_more}
use Rattle.block_signals.specs.Channels.{as_cable, channel_of}
use Rattle.block_signals.proofs.channels.sources.Goals as goal

pub loop-out-preserved : goal.loop-out-preserved
loop-out-preserved c =
    let one = c.source_of.ensures (as_cable c.out-item.result) refl refl refl ∙ ap (channel_of c.args.setup.now) c.out-item.is in
    c.in_ok-push.ensures.ok ∙ (λ t. c.loop-out.invariant t ++ one t ∷ [])
    ∙ sym (map_more (channel_of c.args.setup.now) c.as_slice-out-items.result.now c.loop-out.out-index c.out-item.result c.loop-out-test.true)
