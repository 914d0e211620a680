use Rattle.std.proofs.Common.{◌≡◌, refl, slice_get, Some}
use Rattle.std.proofs.lemmas.Option.{slice_get_read}
use Rattle.session_play.specs.Setup.{ports_of}
use Rattle.block_signals.specs.declared.inlet.Inlet.{Inlet}
use Rattle.block_signals.proofs.Taking.{message_holds}
use Rattle.block_signals.proofs.inlets.Inlets.take_message.Goals as goal

pub take-requires-clause-known : goal.take-requires-clause-known
take-requires-clause-known c =
    let known = c.requires.known in
    let inlet : Inlet = c.index_mut-inlet.result.now in
    let here : slice_get c.args.self.now.each.items c.args.inst ≡ Some inlet =
    slice_get_read c.args.self.now.each.items _ c.args.inst _ refl c.requires.there c.index_mut-inlet.ensures.value in
    (ports_of known.0 c.args.inst, known.1.messages c.args.inst, (known.2.kept c.args.inst inlet here).2)

pub returns : goal.returns
returns c = λ setup board urids action value holds of sends are.
    let inlet : Inlet = c.index_mut-inlet.result.now in
    let here : slice_get c.args.self.now.each.items c.args.inst ≡ Some inlet =
    slice_get_read c.args.self.now.each.items _ c.args.inst _ refl c.requires.there c.index_mut-inlet.ensures.value in
    message_holds urids setup board c.args.self.now _ c.args.inst action value inlet c.take.new.self holds c.requires.there here of sends c.take.ensures.others
    (c.take.ensures.kept (ports_of setup c.args.inst) (board.messages c.args.inst) value (holds.kept c.args.inst inlet here).2 are) refl refl
