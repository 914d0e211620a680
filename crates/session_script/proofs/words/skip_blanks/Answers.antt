use Rattle.std.proofs.Common.{◌≡◌, Some, sym, ap, true, ◌∙◌}
use Rattle.std.specs.Prelude.{slice_get}
use Rattle.session_script.specs.Words.{is_blank, words}
use Rattle.session_script.proofs.Blanks.{blank_boundary, blank_words}
use Rattle.session_script.proofs.words.skip_blanks.Goals as goal

pub range_from-rest-requires : goal.range_from-rest-requires
range_from-rest-requires c = λ _.
    let first : slice_get c.loop-first.rest.now 0 ≡ Some c.in-Some.first.now = sym (rw c.as_bytes.ensures.value at c.in-Some.ensures.value) in
    blank_boundary c.loop-first.rest.now c.in-Some.first.now c.loop-first.invariant.text first (sym c.is_blank.ensures ∙ c.if-not-is_blank.false)

pub loop-first-preserved : goal.loop-first-preserved
loop-first-preserved c =
    let first : slice_get c.loop-first.rest.now 0 ≡ Some c.in-Some.first.now = sym (rw c.as_bytes.ensures.value at c.in-Some.ensures.value) in
    let blank : is_blank c.in-Some.first.now ≡ true = sym c.is_blank.ensures ∙ c.if-not-is_blank.false in
    record {
      same = ap words c.range_from-rest.ensures.value ∙ blank_words c.loop-first.rest.now c.in-Some.first.now first blank ∙ c.loop-first.invariant.same;
      text = c.range_from-rest.utf8;
    }
