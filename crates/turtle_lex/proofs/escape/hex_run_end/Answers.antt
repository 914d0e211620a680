use Rattle.std.proofs.Common.{◌≡◌, ℕ, ◌-◌, subst, arith}
use Rattle.std.proofs.lemmas.Result.{err_from_is_err_and}
use Rattle.turtle_grammar.specs.Pattern.{times}
use Rattle.turtle_grammar.specs.Terminals.{hex}
use Rattle.turtle_lex.specs.Scans.{Goes}
use Rattle.turtle_lex.proofs.Opened.{goes_on, stops_after}
use Rattle.turtle_lex.proofs.Codes.{one_less, one_stop}
use Rattle.turtle_lex.proofs.escape.hex_run_end.Goals as goal

pub returns-in_err-at-clause-inside : goal.returns-in_err-at-clause-inside
returns-in_err-at-clause-inside c =
    let p = err_from_is_err_and c.from_residual.result c.from_residual.ensures.1 in
    rw (p.1, p.2) (λ frame f. stops_after c.args.text.now c.args.from c.loop-left.at (frame (times c.args.count hex)) (frame (times c.loop-left.left hex)) c.in_err-at.field-0.0 (c.loop-left.invariant.1 frame f) (one_stop c.loop-left.left c.args.text.now c.loop-left.at c.in_err-at.field-0.0 c.loop-left-test.true c.in_err-at.ensures.inside frame f))

pub loop-left-preserved : goal.loop-left-preserved
loop-left-preserved c = (
  c.in_ok-at.ensures.place,
  λ frame f.
      goes_on c.args.text.now c.args.from c.loop-left.at c.in_ok-at.at (frame (times c.args.count hex)) (frame (times c.loop-left.left hex)) (frame (times (c.loop-left.left - 1) hex))
      (c.loop-left.invariant.1 frame f)
      (one_less c.loop-left.left c.args.text.now c.loop-left.at c.in_ok-at.at c.loop-left-test.true c.in_ok-at.ensures.inside frame f),
)

pub returns-clause-inside : goal.returns-clause-inside
returns-clause-inside c =
    λ frame f.
    let e : c.loop-left.left ≡ 0 = omega arith in
    let P : ℕ → Type 0 = λ k. Goes (frame (times c.args.count hex)) (frame (times k hex)) c.args.text.now c.args.from c.loop-left.at in
    subst P e (c.loop-left.invariant.1 frame f)
