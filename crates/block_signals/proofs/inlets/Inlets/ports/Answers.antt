use Rattle.std.proofs.Common.{◌≡◌, refl, ap, sym, ◌∙◌}
use Rattle.std.proofs.lemmas.Option.{same_Some, slice_get_read}
use Rattle.block_signals.specs.declared.inlet.Inlet.{Inlet}
use Rattle.block_signals.proofs.Lent.{filled_is_ready}
use Rattle.block_signals.proofs.inlets.Inlets.ports.Goals as goal

pub returns-clause-ready : goal.returns-clause-ready
returns-clause-ready c = λ setup board inlet ready at filled are quiet.
    let same : c.index-inlet.result.now ≡ inlet =
    same_Some c.index-inlet.result.now inlet (sym (slice_get_read c.args.self.now.each.items _ c.args.inst _ refl c.requires.there c.index-inlet.ensures) ∙ at) in
    filled_is_ready setup board c.args.inst inlet c.over.result ready filled (c.over.ensures.ports ∙ are) (c.over.ensures.inputs ∙ ap (λ (it : Inlet). it.ins) same)
    (c.over.ensures.places ∙ c.as_slice.ensures ∙ ap (λ (it : Inlet). it.of) same) (c.over.ensures.outputs ∙ quiet)
