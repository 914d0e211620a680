use Rattle.std.proofs.Common.{◌∙◌, refl, sym}
use Rattle.plug_api.specs.Inputs.{samples_at}
use Rattle.plug_api.specs.Ports.{ports_of, inputs_of}
use Rattle.plug_api.proofs.Lent.{input_whole}
use Rattle.plug_api.proofs.Written.{ran_sound}
use Rattle.stock_sound.specs.Mixer.{mixer, mixer_sound}
use Rattle.stock_sound.proofs.Fits.{mixer_ports}
use Rattle.stock_sound.proofs.Mixing.{mixed_length}
use Rattle.stock_sound.proofs.mixer.MixerFront.run.Goals as goal

pub returns-clause-ran : goal.returns-clause-ran
returns-clause-ran g c =
    let given = inputs_of c.args.ports.now in
    let found = mixer_ports (ports_of c.args.ports.now) c.requires.fits in
    let first = input_whole c.args.ports.now 0 c.requires.lent found.first in
    let second = input_whole c.args.ports.now 1 c.requires.lent found.second in
    ran_sound mixer.run g.S.Sched.went c.args.self.now c.args.self.now 2 (mixer_sound given) g.met.S.Sched.chains refl found.out
    (mixed_length (samples_at given 0) (samples_at given 1) (first ∙ sym second) ∙ first)
    c.play_mixer.ensures.same_loan c.play_mixer.ensures.sound
