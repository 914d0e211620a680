use Rattle.std.proofs.Common.{◌∙◌, ap, sym, refl}
use Rattle.lv_base.specs.declared.number.Sample.{Sample}
use Rattle.interaction.specs.Interaction.{done}
use Rattle.plug_api.specs.Signal.{sound}
use Rattle.plug_api.specs.Inputs.{Outputs, samples_at, value_at}
use Rattle.plug_api.specs.Ports.{ports_of, inputs_of}
use Rattle.plug_api.proofs.Lent.{input_whole}
use Rattle.plug_api.proofs.Written.{ran_sound}
use Rattle.stock_sound.specs.Echo.{echo, echoed}
use Rattle.stock_sound.proofs.Echoing.{echoed_length}
use Rattle.stock_sound.proofs.Fits.{echo_ports}
use Rattle.std.specs.Prelude.{List, [], ◌∷◌}
use Rattle.stock_sound.proofs.echo.EchoFront.run.Goals as goal

pub returns-clause-ran : goal.returns-clause-ran
returns-clause-ran g c =
    let given = inputs_of c.args.ports.now in
    let found = echo_ports (ports_of c.args.ports.now) c.requires.fits in
    let feedback = value_at given 2 in
    let signal = samples_at given 0 in
    let heard = echoed feedback c.args.self.now signal in
    ran_sound echo.run g.S.Sched.went c.args.self.now c.play.new.self 1 heard g.met.S.Sched.chains
    (ap (λ (past : List Sample). done (past, (1, sound heard) ∷ [])) (sym c.play.ensures.past)) found.out
    (echoed_length feedback c.args.self.now signal ∙ input_whole c.args.ports.now 0 c.requires.lent found.given)
    c.play.ensures.same_loan c.play.ensures.sound
