use Rattle.std.proofs.Common.{◌≡◌, ◌<◌, ◌∷◌, ℕ, length, take, drop, sym, ap, subst, ◌∙◌}
use Rattle.std.specs.List.{position_or_len}
use Rattle.session_script.specs.Words.{is_blank, words}
use Rattle.session_script.proofs.Cuts as cuts
use Rattle.session_script.proofs.words.cut_word.Goals as goal

pub range-requires-clause-end_boundary : goal.range-requires-clause-end_boundary
range-requires-clause-end_boundary c =
    let line = c.skip_blanks-line.result.now in
    let end : c.word_len-end.result ≡ position_or_len is_blank line = rw c.as_bytes.ensures.value at c.word_len-end.ensures.value in
    cuts.word_boundary line c.word_len-end.result end

pub range_from-requires : goal.range_from-requires
range_from-requires c =
    let line = c.skip_blanks-line.result.now in
    let end : c.word_len-end.result ≡ position_or_len is_blank line = rw c.as_bytes.ensures.value at c.word_len-end.ensures.value in
    λ _. cuts.word_boundary line c.word_len-end.result end

pub returns : goal.returns
returns c =
    let line = c.skip_blanks-line.result.now in
    let n = c.word_len-end.result in
    let some : 0 < length line = cuts.nonempty line c.is_empty.result c.is_empty.ensures c.if-is_empty.false in
    let end : n ≡ position_or_len is_blank line = rw c.as_bytes.ensures.value at c.word_len-end.ensures.value in
    let P : ℕ → Type 0 = λ m. words line ≡ take m line ∷ words (drop m line) in
    let cut = subst P (sym end) (cuts.words-word line (c.skip_blanks-line.ensures.word some)) in
    sym c.skip_blanks-line.ensures.same ∙ cut
    ∙ ap (λ word. word ∷ words (drop n line)) (sym (cuts.front line n) ∙ sym c.range.ensures.value)
    ∙ ap (λ rest. c.range.result.now ∷ words rest) (sym c.range_from.ensures.value)
