use Rattle.std.proofs.Common.{◌<◌, refl, ap, sym, subst, ◌∙◌, length, get_or, arith}
use Rattle.std.proofs.lemmas.List.Edits.{map_over_more}
use Rattle.std.proofs.lemmas.Option.{slice_get-get_or}
use Rattle.block_signals.specs.declared.inlet.Inlet.{Inlet}
use Rattle.block_signals.specs.Messages.{AreRoomy}
use Rattle.block_signals.proofs.Lists.{over_next}
use Rattle.block_signals.proofs.Patching.{roomy}
use Rattle.block_signals.proofs.Shown.{went_over}
use Rattle.block_signals.proofs.Taking.{begun_inlet, block_holds}
use Rattle.block_signals.proofs.inlets.Inlets.begin_block.Goals as goal

pub begin_block-requires : goal.begin_block-requires
begin_block-requires c =
    let same = c.deref_mut-inlet-items.ensures.value in
    let i = c.loop-inlet.inlet-index in
    let xs = c.args.self.now.each.items in
    let known = c.requires in
    let within : i < length xs = omega (arith, ap length same) in
    let item : Inlet = get_or xs i c.inlet-item.result in
    let here = over_next begun_inlet xs c.loop-inlet.inlet-items i c.inlet-item.result (rw same at c.loop-inlet.invariant) within in
    subst (λ (it : Inlet). AreRoomy it.messages) (sym here)
    (roomy known.0 i (known.1.messages i) item.messages known.2 (known.3.kept i item (slice_get-get_or xs i c.inlet-item.result within)).2)

pub loop-inlet-preserved : goal.loop-inlet-preserved
loop-inlet-preserved c =
    rw (c.begin_block.ensures ∙ ap begun_inlet (sym c.inlet-item.is))
    (map_over_more begun_inlet c.deref_mut-inlet-items.result.now c.loop-inlet.inlet-items c.loop-inlet.inlet-index c.inlet-item.result
    (omega arith) c.loop-inlet.invariant c.inlet-item.is)

pub returns : goal.returns
returns c = λ setup board holds.
    let same = c.deref_mut-inlet-items.ensures.value in
    block_holds setup board c.args.self.now _ holds
    (went_over begun_inlet c.args.self.now.each.items c.loop-inlet.inlet-items c.args.self.now.each.len c.loop-inlet.inlet-index
    (omega (arith, c.deref_mut-inlet-items.ensures.len, ap length same)) (omega (arith, ap length same)) (rw same at c.loop-inlet.invariant))
    refl
