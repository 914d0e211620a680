-- The cut stands where the first word ends.
use Rattle.std.proofs.Common.{length, take, drop, min, ◌+◌, ◌-◌, ◌≤◌, ap, sym, ◌∙◌, arith, take_all, length-drop}
use Rattle.step_record.proofs.Cuts.{word_take, rest_cut}
use Rattle.step_record.proofs.words.cut.Goals as goal

pub returns-clause-first : goal.returns-clause-first
returns-clause-first c = ap (λ n. take n c.args.text.now) c.word_len-end.ensures.value ∙ sym (word_take c.args.text.now)

pub returns-clause-others : goal.returns-clause-others
returns-clause-others c =
    let text = c.args.text.now in
    let next = c.min-next.result in
    let all : length (drop next text) ≤ length text - next = omega (arith, length-drop next text) in
    take_all (length text - next) (drop next text) all
    ∙ ap (λ n. drop n text) (c.min-next.ensures ∙ ap (λ n. min (n + 1) (length text)) c.word_len-end.ensures.value)
    ∙ sym (rest_cut text)
