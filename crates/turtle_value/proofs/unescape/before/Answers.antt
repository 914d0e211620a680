use Rattle.std.proofs.Common.{◌≡◌, ◌-◌, length, take, slice_range, ap, ◌∙◌, subst, arith}
use Rattle.std.proofs.lemmas.List.{length-append, take_at}
use Rattle.std.specs.Str.{chars, IsCharBoundary}
use Rattle.turtle_value.proofs.Ends.{back_step}
use Rattle.turtle_value.proofs.unescape.before.Goals as goal
use lib.Utf8.{encode}

pub range-requires-clause-end_boundary : goal.range-requires-clause-end_boundary
range-requires-clause-end_boundary c =
    let text = c.args.text.now in
    let front = c.requires.0 in
    let s = back_step text front c.args.last c.utf8.text c.ranges.last.0 c.requires.1 in
    let n : length front ≡ length text - c.len_utf8.result = omega (arith, ap length c.requires.1, length-append front (encode c.args.last), c.len_utf8.ensures.len) in
    subst (IsCharBoundary text) n s.0

pub returns : goal.returns
returns c =
    let text = c.args.text.now in
    let front = c.requires.0 in
    let s = back_step text front c.args.last c.utf8.text c.ranges.last.0 c.requires.1 in
    let n : length front ≡ length text - c.len_utf8.result = omega (arith, ap length c.requires.1, length-append front (encode c.args.last), c.len_utf8.ensures.len) in
    let cut = ap (λ x. take (length text - c.len_utf8.result) x) c.requires.1 ∙ take_at front (encode c.args.last) (length text - c.len_utf8.result) n in
    let from_start : slice_range text 0 (length text - c.len_utf8.result) ≡ take (length text - c.len_utf8.result) text = ap (λ k. take k text) (omega arith) in
    ap chars (c.range.ensures.value ∙ (from_start ∙ cut)) ∙ s.1
