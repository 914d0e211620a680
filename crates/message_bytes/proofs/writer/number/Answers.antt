use Rattle.std.proofs.Common.{◌∙◌, ◌+◌, ap}
use Rattle.message_bytes.proofs.Alone.{number_is}
use Rattle.message_bytes.proofs.writer.number.Goals as goal

pub returns : goal.returns
returns c =
    c.unwrap_or.ensures
    ∙ number_is c.args.urids.now c.args.property.now c.number.result (c.held.result + 1) c.number.ensures.value (ap (λ n. n + 1) c.held.ensures.value)
