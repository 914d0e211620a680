use Rattle.std.proofs.Common.{refl}
use Rattle.std.proofs.lemmas.List.{length-replicate}
use Rattle.lv_base.specs.Number.{sample_of}
use Rattle.plug_api.specs.Inputs.{value_at}
use Rattle.plug_api.specs.Ports.{ports_of, inputs_of}
use Rattle.plug_api.proofs.Written.{ran_sound}
use Rattle.stock_sound.specs.Constant.{constant, constant_sound}
use Rattle.stock_sound.proofs.Fits.{constant_ports}
use Rattle.stock_sound.proofs.constant.ConstantFront.run.Goals as goal

pub returns-clause-ran : goal.returns-clause-ran
returns-clause-ran g c =
    let given = inputs_of c.args.ports.now in
    ran_sound constant.run g.S.Sched.went c.args.self.now c.args.self.now 1 (constant_sound given) g.met.S.Sched.chains refl
    (constant_ports (ports_of c.args.ports.now) c.requires.fits).out
    (length-replicate given.frames (sample_of (value_at given 0))) c.play_constant.ensures.same_loan c.play_constant.ensures.sound
