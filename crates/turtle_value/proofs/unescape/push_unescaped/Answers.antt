use Rattle.std.proofs.Common.{◌≡◌, ◌++◌, OnOk, List, ℕ, encode_utf8_all, sym, ap, ◌∙◌, subst}
use Rattle.std.proofs.lemmas.List.{nil_from_length}
use Rattle.std.proofs.lemmas.Str.{chars_past_char, IsUtf8-past_char, chars-nil}
use Rattle.std.specs.Str.{chars}
use Rattle.std.specs.Str.Iter.{chars_rest}
use Rattle.std.specs.String.{string_bytes}
use Rattle.turtle_value.specs.Escaping.{left_of}
use Rattle.turtle_value.proofs.Pushed.{pushed}
use Rattle.turtle_value.proofs.unescape.push_unescaped.Goals as goal

pub loop-c-preserved : goal.loop-c-preserved
loop-c-preserved c =
    let old = chars_rest c.loop-c.c-iterator in
    let new = chars_rest c.next.new.self in
    let cut = c.in-Some.ensures.steps.0 in
    let utf8 = c.loop-c.invariant.3 in
    let rest = chars_past_char old new c.in-Some.c utf8 cut in (
      tt,
      tt,
      c.step-after.ensures.begun,
      IsUtf8-past_char old new c.in-Some.c utf8 cut,
      pushed (string_bytes c.loop-c.into) (string_bytes c.push.new.into) c.loop-c.escape c.step-after.result.0 c.in-Some.c c.step-after.result.1 (chars new) c.step-after.ensures c.in_ok-push.ensures
          ∙ (ap (λ x. string_bytes c.loop-c.into ++ encode_utf8_all (left_of c.loop-c.escape x)) (sym rest) ∙ c.loop-c.invariant.4),
    )

pub returns : goal.returns
returns c =
    let old = chars_rest c.loop-c.c-iterator in
    let none = ap chars (nil_from_length old c.in-None.ensures.steps.0.0) ∙ chars-nil in
    let e = ap (λ x. string_bytes c.loop-c.into ++ encode_utf8_all x) (c.rest_of.ensures ∙ sym (ap (λ x. left_of c.loop-c.escape x) none)) ∙ c.loop-c.invariant.4 in
    let P : List ℕ → Type 0 = λ y. OnOk c.push-2.result (string_bytes c.push-2.new.into ≡ y) in
    subst P e c.push-2.ensures
