use Rattle.std.proofs.Common.{◌≡◌, ℤ, sym, subst}
use Rattle.std.specs.Int.{w64}
use Rattle.std.proofs.lemmas.Int.{to_z-of_z}
use Rattle.plug_api.specs.Buffers.{with_forge}
use Rattle.plug_api.specs.Ports.{outs_of, place_of}
use Rattle.stock_tank.specs.declared.ask.Ask.{Ask}
use Rattle.stock_tank.specs.Answers.{answer_to}
use Rattle.stock_tank.specs.Playing.{step, playing, with_event, forge_of, HasPlayed}
use Rattle.stock_tank.proofs.Outputs.{get_played}
use Rattle.stock_tank.proofs.front.TankFront.take.Goals as goal

pub returns-in-Get-clause-played : goal.returns-in-Get-clause-played
returns-in-Get-clause-played g c =
    let front = c.args.self.now in
    let lent = c.args.ports.now in
    let new = c.answer.new.ports in
    let outputs = subst (λ (z : ℤ). outs_of new ≡ with_forge (outs_of lent) (place_of lent 1)
    (with_event (forge_of lent) (record { time = z; value = answer_to front.key front.level c.in-Get.wanted })))
    (to_z-of_z w64 c.args.time c.ranges.time) c.answer.ensures.outputs in
    subst (λ (ask : Ask). HasPlayed lent new (step front.key (playing front.level c.args.from lent) (c.args.time, ask))) (sym c.in-Get.is)
    (get_played lent new front.key front.level c.args.from c.args.time c.in-Get.wanted c.requires.can c.answer.ensures.same_loan outputs)
