use Rattle.std.proofs.Common.{◌≡◌, ◌++◌, ◌==◌, ℕ, Bool, true, false, not, filter, encode_utf8_all, sym, ap, ◌∙◌, append-nil, ne_eqb}
use Rattle.std.proofs.lemmas.List.{nil_from_length}
use Rattle.std.proofs.lemmas.Str.{chars_past_char, IsUtf8-past_char, chars-nil}
use Rattle.std.specs.Str.{chars}
use Rattle.std.specs.Str.Iter.{chars_rest}
use Rattle.std.specs.String.{string_bytes}
use Rattle.turtle_value.proofs.Pushed.{kept, left_out}
use Rattle.turtle_value.proofs.name.push_unescaped.Goals as goal

abbrev is_kept : ℕ → Bool
is_kept c = not (c == 92)

pub loop-c-preserved-in-Continue-1 : goal.loop-c-preserved-in-Continue-1
loop-c-preserved-in-Continue-1 c =
    let old = chars_rest c.loop-c.c-iterator in
    let new = chars_rest c.next.new.self in
    let cut = c.in-Some.ensures.steps.0 in
    let rest = chars_past_char old new c.in-Some.c c.loop-c.invariant.2 cut in
    let passes : is_kept c.in-Some.c ≡ true = ap not (ne_eqb c.in-Some.c 92 c.if-c-ne92.true) in (
      tt,
      tt,
      IsUtf8-past_char old new c.in-Some.c c.loop-c.invariant.2 cut,
      kept is_kept (string_bytes c.loop-c.into) (string_bytes c.push.new.self) c.in-Some.c (chars new) passes c.in_ok-push.ensures.bytes
          ∙ (ap (λ x. string_bytes c.loop-c.into ++ encode_utf8_all (filter is_kept x)) (sym rest) ∙ c.loop-c.invariant.3),
    )

pub loop-c-preserved : goal.loop-c-preserved
loop-c-preserved c =
    let old = chars_rest c.loop-c.c-iterator in
    let new = chars_rest c.next.new.self in
    let cut = c.in-Some.ensures.steps.0 in
    let rest = chars_past_char old new c.in-Some.c c.loop-c.invariant.2 cut in
    let fails : is_kept c.in-Some.c ≡ false = ap is_kept c.if-c-ne92.false in (
      tt,
      tt,
      IsUtf8-past_char old new c.in-Some.c c.loop-c.invariant.2 cut,
      left_out is_kept (string_bytes c.loop-c.into) c.in-Some.c (chars new) fails
          ∙ (ap (λ x. string_bytes c.loop-c.into ++ encode_utf8_all (filter is_kept x)) (sym rest) ∙ c.loop-c.invariant.3),
    )

pub returns : goal.returns
returns c =
    let old = chars_rest c.loop-c.c-iterator in
    let none = ap chars (nil_from_length old c.in-None.ensures.steps.0.0) ∙ chars-nil in
    sym (append-nil (string_bytes c.loop-c.into)) ∙ (ap (λ x. string_bytes c.loop-c.into ++ encode_utf8_all (filter is_kept x)) (sym none) ∙ c.loop-c.invariant.3)
