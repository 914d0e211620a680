use Rattle.std.proofs.Common.{length, ap, ◌∙◌, arith}
use Rattle.std.specs.Option.{unwrap_or}
use Rattle.step_record.specs.Words.{is_end}
use Rattle.step_record.proofs.Cuts.{or_length, position-within}
use Rattle.step_record.proofs.words.word_len.Goals as goal

pub returns-clause-value : goal.returns-clause-value
returns-clause-value c = c.unwrap_or.ensures ∙ ap (λ o. unwrap_or o (length c.args.text.now)) c.first_end.ensures ∙ or_length is_end c.args.text.now

pub returns-clause-within : goal.returns-clause-within
returns-clause-within c =
    let value = c.unwrap_or.ensures ∙ ap (λ o. unwrap_or o (length c.args.text.now)) c.first_end.ensures ∙ or_length is_end c.args.text.now in
    omega (arith, value, position-within is_end c.args.text.now)
