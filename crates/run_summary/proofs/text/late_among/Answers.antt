use Rattle.std.proofs.Common.{◌≡◌, ◌+◌, ◌<◌, ◌^◌, ℕ, Bool, ap, ◌∙◌, arith}
use Rattle.record_law.specs.History.{one_more}
use Rattle.run_summary.specs.Parts.{is_late}
use Rattle.run_summary.proofs.Texts.{late_more, late_most}
use Rattle.run_summary.proofs.text.late_among.Goals as goal

pub loop-place-preserved : goal.loop-place-preserved
loop-place-preserved c =
    let few : c.loop-place.late + 1 < 2 ^ 64 = omega (arith, c.loop-place.invariant.most) in
    let now = c.one_more_if-late.ensures few ∙ ap (λ (b : Bool). one_more b c.loop-place.late) c.is_late.ensures in
    record {
      most = late_most _ c.loop-place.late _ c.loop-place.place c.loop-place.invariant.most now;
      all =
          late_more c.args.tally.now c.args.actions.now c.loop-place.place c.index-actions-place.result c.loop-place.late _ c.loop-place-test.true c.index-actions-place.is now
          ∙ c.loop-place.invariant.all;
    }
