-- A run writes what is heard of the level and the value.
use Rattle.std.proofs.Common.{◌≡◌, ◌∙◌, false, List, [], ◌∷◌, replicate, ap, refl}
use Rattle.std.proofs.lemmas.Bool.{and_parts}
use Rattle.std.proofs.lemmas.List.{length-replicate}
use Rattle.lv_base.specs.declared.number.Fixed.{Fixed}
use Rattle.lv_base.specs.declared.number.Sample.{Sample}
use Rattle.interaction.specs.Interaction.{done}
use Rattle.plug_api.specs.Signal.{sound}
use Rattle.plug_api.specs.Inputs.{Inputs, value_at}
use Rattle.plug_api.specs.Buffers.{with_block}
use Rattle.plug_api.specs.Ports.{ports_of, ins_of, outs_of, place_of, inputs_of, IsSameLoan}
use Rattle.plug_api.proofs.Lent.{audio_sounds}
use Rattle.plug_api.proofs.Written.{ran_sound}
use Rattle.stock_state.specs.declared.keep.KeepFront.{KeepFront}
use Rattle.stock_state.specs.Levels.{heard}
use Rattle.stock_state.specs.Keep.{keep_run}
use Rattle.stock_state.proofs.keep.KeepFrontFront.run.Goals as goal

gives : (front : KeepFront) (given : Inputs) (value : Fixed) (sample : Sample) → value ≡ value_at given 1 → sample ≡ heard front.level value
    → keep_run front given ≡ done (front, (0, sound (replicate given.frames sample)) ∷ [])
gives front given value sample value_is sample_is = rw (sample_is, value_is) refl

pub returns-clause-ran : goal.returns-clause-ran
returns-clause-ran g c =
    let lent = c.args.ports.now in
    let front = c.args.self.now in
    let ports = and_parts _ _ c.requires.fits in
    let level : List Sample = replicate (ins_of lent).frames c.heard.result in
    let sounds = audio_sounds false (ports_of lent) 0 ports.0 in
    let new = c.fill.new.ports in
    let loan : IsSameLoan lent new = c.fill.ensures.same_loan in
    let outs : outs_of new ≡ with_block (outs_of lent) (place_of lent 0) level =
    c.fill.ensures.outputs
    ∙ ap (λ n. with_block (outs_of lent) (place_of lent 0) (replicate n c.heard.result)) (c.requires.lent.outputs.sounds 0 sounds).whole in
    ran_sound keep_run g.S.Sched.went front front {lent = lent} {new = new} {sched = c.args._sched.now} 0 level g.met.S.Sched.chains
    (gives front (inputs_of lent) c.value-value.result c.heard.result c.value-value.ensures c.heard.ensures) sounds (length-replicate _ _)
    loan outs
