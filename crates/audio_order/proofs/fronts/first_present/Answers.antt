use Rattle.std.proofs.Common.{length, ap, ◌∙◌}
use Rattle.std.specs.Option.{unwrap_or}
use Rattle.audio_order.specs.Fronts.{has_front}
use Rattle.order_base.proofs.Follow.{or_length}
use Rattle.audio_order.proofs.fronts.first_present.Goals as goal

pub returns-clause-value : goal.returns-clause-value
returns-clause-value c =
    c.unwrap_or.ensures ∙ ap (λ o. unwrap_or o (length c.args.plan.now)) c.present_at.ensures ∙ or_length (has_front c.args.fronts.now) c.args.plan.now
