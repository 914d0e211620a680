use Rattle.std.proofs.Common.{◌∙◌, refl}
use Rattle.std.proofs.lemmas.List.{length-map}
use Rattle.lv_base.specs.declared.number.Sample.{Sample}
use Rattle.lv_base.specs.Number.{gained}
use Rattle.plug_api.specs.Inputs.{samples_at, value_at}
use Rattle.plug_api.specs.Ports.{ports_of, inputs_of}
use Rattle.plug_api.proofs.Lent.{input_whole}
use Rattle.plug_api.proofs.Written.{ran_sound}
use Rattle.stock_sound.specs.Amplifier.{amplifier, amplifier_sound}
use Rattle.stock_sound.proofs.Fits.{amplifier_ports}
use Rattle.stock_sound.proofs.amplifier.AmplifierFront.run.Goals as goal

pub returns-clause-ran : goal.returns-clause-ran
returns-clause-ran g c =
    let given = inputs_of c.args.ports.now in
    let found = amplifier_ports (ports_of c.args.ports.now) c.requires.fits in
    ran_sound amplifier.run g.S.Sched.went c.args.self.now c.args.self.now 2 (amplifier_sound given) g.met.S.Sched.chains refl found.out
    (length-map (samples_at given 1) (λ (sample : Sample). gained sample (value_at given 0))
    ∙ input_whole c.args.ports.now 1 c.requires.lent found.given)
    c.play_amplifier.ensures.same_loan c.play_amplifier.ensures.sound
