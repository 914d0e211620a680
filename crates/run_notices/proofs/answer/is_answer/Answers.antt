use Rattle.std.proofs.Common.{◌∙◌}
use Rattle.run_notices.proofs.Heard.{answer_read}
use Rattle.run_notices.proofs.answer.is_answer.Goals as goal

pub returns : goal.returns
returns c = λ v spells. c.is_ok.ensures.value ∙ answer_read c.read_message.result c.args.atom.bytes.now v spells (c.read_message.ensures v spells)
