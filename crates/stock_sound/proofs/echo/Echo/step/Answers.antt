use Rattle.std.proofs.Common.{◌≡◌, ◌+◌, ◌<◌, List, [], ◌∷◌, ◌++◌, length, drop, ◌∙◌, ap, arith}
use Rattle.lv_base.specs.declared.number.Sample.{Sample}
use Rattle.stock_sound.proofs.Echoing.{ring_more, ring_round}
use Rattle.stock_sound.proofs.echo.Echo.step.Goals as goal
use Rattle.stock_sound.proofs.echo.Echo.step.Goals.{then-self-lt-DELAY, else-self-lt-DELAY}

pub returns-clause-past : goal.returns-clause-past
returns-clause-past c =
    let ring = c.self.inside.ring in
    let at = c.self.inside.next in
    let y = c.to_sample-sample.result in
    let below : at < 8 = c.self.invariant.0 in
    let eight : length ring ≡ 8 = c.self.invariant.1 in
    let more = ap (λ (past : List Sample). drop 1 past ++ y ∷ []) c.self.view_is in
    elim c.if-self-lt-DELAY.branch [
      | then-self-lt-DELAY w ↦
          let h : at + 1 < length ring = omega (arith, eight, w.if-self-lt-DELAY.true) in
          rw w.self-is (ring_more ring at y h ∙ more)
      | else-self-lt-DELAY w ↦
          let h : at + 1 ≡ length ring = omega (arith, eight, below, w.if-self-lt-DELAY.false) in
          rw w.self-is (ring_round ring at y h ∙ more)
    ]
