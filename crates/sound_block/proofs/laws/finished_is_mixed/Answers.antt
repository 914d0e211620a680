use Rattle.std.proofs.Common.{pos, [], replicate, ap, ◌∙◌, arith}
use Rattle.std.proofs.lemmas.List.{get_or-map, length-replicate, get_or-replicate}
use Rattle.lv_base.specs.Number.{clamped}
use Rattle.sound_block.specs.Block.{sums_after}
use Rattle.sound_block.proofs.Sums.{sums-after-at, sums-after-length}
use Rattle.sound_block.proofs.laws.finished_is_mixed.Goals as goal

pub returns : goal.returns
returns c = λ frames signals whole frame h.
    let none = replicate frames (pos 0) in
    let long = sums-after-length none signals ∙ length-replicate frames (pos 0) in
    get_or-map clamped (sums_after none signals) frame (pos 0) _ (omega arith)
    ∙ ap clamped (sums-after-at frames [] signals none (length-replicate frames (pos 0)) whole frame h (get_or-replicate frames frame (pos 0) (pos 0) h))
