use Rattle.std.proofs.Common.{length, ap, ◌∙◌, arith}
use Rattle.std.specs.Option.{unwrap_or}
use Rattle.session_script.specs.Words.{is_blank}
use Rattle.session_script.proofs.Cuts as cuts
use Rattle.session_script.proofs.words.word_len.Goals as goal

pub returns-clause-value : goal.returns-clause-value
returns-clause-value c = c.unwrap_or.ensures ∙ ap (λ o. unwrap_or o (length c.args.line.now)) c.first_blank.ensures ∙ cuts.or_length is_blank c.args.line.now

pub returns-clause-within : goal.returns-clause-within
returns-clause-within c =
    let value = c.unwrap_or.ensures ∙ ap (λ o. unwrap_or o (length c.args.line.now)) c.first_blank.ensures ∙ cuts.or_length is_blank c.args.line.now in
    omega (arith, value, cuts.within_line c.args.line.now)
