use Rattle.std.proofs.Common.{◌≡◌, refl, ap, sym, subst, ◌∙◌, length, slice_get, Some, arith}
use Rattle.std.proofs.lemmas.List.{take_at}
use Rattle.std.proofs.lemmas.Option.{same_Some, slice_get_read}
use Rattle.session_play.specs.Setup.{ports_of}
use Rattle.block_signals.specs.declared.inlet.Inlet.{Inlet}
use Rattle.block_signals.specs.Lent.{IsFilled}
use Rattle.block_signals.specs.Messages.{KeepsFor}
use Rattle.block_signals.proofs.Holding.{replaced}
use Rattle.block_signals.proofs.Lists.{set_here}
use Rattle.block_signals.proofs.inlets.Inlets.fill.Goals as goal

pub fill-requires-clause-room : goal.fill-requires-clause-room
fill-requires-clause-room c =
    let known = c.requires.known in
    let here : slice_get c.args.self.now.each.items c.args.inst ≡ Some c.index_mut-inlet.result.now =
    slice_get_read c.args.self.now.each.items _ c.args.inst _ refl c.requires.there c.index_mut-inlet.ensures.value in
    ap length c.as_mut_slice.ensures.value ∙ known.4.sums ∙ sym (known.4.kept c.args.inst c.index_mut-inlet.result.now here).0.frames

pub fill-requires-clause-known : goal.fill-requires-clause-known
fill-requires-clause-known c =
    let known = c.requires.known in
    let here : slice_get c.args.self.now.each.items c.args.inst ≡ Some c.index_mut-inlet.result.now =
    slice_get_read c.args.self.now.each.items _ c.args.inst _ refl c.requires.there c.index_mut-inlet.ensures.value in
    (known.0, known.1, c.args.inst, known.2, known.3, known.4.kept c.args.inst c.index_mut-inlet.result.now here)

pub returns-clause-kept : goal.returns-clause-kept
returns-clause-kept c = λ setup board ready shows holds.
    let inlet : Inlet = c.index_mut-inlet.result.now in
    let here : slice_get c.args.self.now.each.items c.args.inst ≡ Some inlet =
    slice_get_read c.args.self.now.each.items _ c.args.inst _ refl c.requires.there c.index_mut-inlet.ensures.value in
    let was = holds.kept c.args.inst inlet here in
    let filled : IsFilled setup board c.args.inst c.fill.new.self = c.fill.ensures.filled setup board c.args.inst ready shows was in
    replaced setup board board c.args.self.now _ c.args.inst c.fill.new.self holds c.requires.there
    (filled.wired, filled.values, subst (KeepsFor (ports_of setup c.args.inst) (board.messages c.args.inst)) (sym c.fill.ensures.messages) was.2)
    (λ k other ne held. held) refl
    (let same = ap length c.as_mut_slice.ensures.value in
    let long : length c.fill.new.sums ≡ c.args.self.now.sums.len = omega (arith, c.fill.auto.sums, c.as_mut_slice.ensures.len) in
    ap length (take_at c.fill.new.sums _ c.args.self.now.sums.len long) ∙ c.fill.auto.sums ∙ same)

pub returns-clause-filled : goal.returns-clause-filled
returns-clause-filled c = λ setup board ready shows holds inlet at.
    let old : Inlet = c.index_mut-inlet.result.now in
    let here : slice_get c.args.self.now.each.items c.args.inst ≡ Some old =
    slice_get_read c.args.self.now.each.items _ c.args.inst _ refl c.requires.there c.index_mut-inlet.ensures.value in
    let same : c.fill.new.self ≡ inlet =
    same_Some c.fill.new.self inlet (sym (set_here c.args.self.now.each.items c.args.inst c.fill.new.self c.requires.there) ∙ at) in
    subst (IsFilled setup board c.args.inst) same (c.fill.ensures.filled setup board c.args.inst ready shows (holds.kept c.args.inst old here))
