use Rattle.std.proofs.Common.{refl, sym, None, Some, arith}
use Rattle.turtle_grammar.specs.declared.token.TokenKind.TheVariants.{LanguageTag}
use Rattle.turtle_lex.specs.Tags.{tag_letters, tag_hyphen, tag_rest}
use Rattle.turtle_lex.proofs.Picked.{pick_through, pick_or, pick_none, pick_none_last}
use Rattle.turtle_lex.proofs.TagSteps.{letters_hyphen, hyphen_more, hyphen_other, rest_hyphen}
use Rattle.turtle_lex.proofs.tag.letter_or_digit_at.Goals as goal

pub returns-in-None : goal.returns-in-None
returns-in-None c = (
  λ _. pick_or c.args.text.now c.args.at 45 c.args.next tag_letters tag_hyphen None (Some (LanguageTag, c.args.at)) LanguageTag c.requires.place c.requires.hyphen letters_hyphen refl (pick_none_last c.args.text.now c.args.next tag_hyphen c.requires.hyphen.place c.in-None.ensures refl) refl,
  λ _. pick_or c.args.text.now c.args.at 45 c.args.next tag_rest tag_hyphen None (Some (LanguageTag, c.args.at)) LanguageTag c.requires.place c.requires.hyphen rest_hyphen refl (pick_none_last c.args.text.now c.args.next tag_hyphen c.requires.hyphen.place c.in-None.ensures refl) refl,
)

pub returns-then-is_letter_or_digit : goal.returns-then-is_letter_or_digit
returns-then-is_letter_or_digit c = (
  c.in-Some.ensures.place,
  omega (arith, c.requires.hyphen.further, c.in-Some.ensures.further),
  λ x h. pick_or c.args.text.now c.args.at 45 c.args.next tag_letters tag_hyphen (Some x) (Some x) LanguageTag c.requires.place c.requires.hyphen letters_hyphen refl (pick_through c.args.text.now c.args.next c.in-Some.c c.in-Some.end tag_hyphen tag_rest (Some x) c.requires.hyphen.place c.in-Some.ensures (hyphen_more c.in-Some.c (sym c.if-is_letter_or_digit.ensures)) refl h) refl,
  λ x h. pick_or c.args.text.now c.args.at 45 c.args.next tag_rest tag_hyphen (Some x) (Some x) LanguageTag c.requires.place c.requires.hyphen rest_hyphen refl (pick_through c.args.text.now c.args.next c.in-Some.c c.in-Some.end tag_hyphen tag_rest (Some x) c.requires.hyphen.place c.in-Some.ensures (hyphen_more c.in-Some.c (sym c.if-is_letter_or_digit.ensures)) refl h) refl,
)

pub returns-else-is_letter_or_digit : goal.returns-else-is_letter_or_digit
returns-else-is_letter_or_digit c = (
  λ _. pick_or c.args.text.now c.args.at 45 c.args.next tag_letters tag_hyphen None (Some (LanguageTag, c.args.at)) LanguageTag c.requires.place c.requires.hyphen letters_hyphen refl (pick_none c.args.text.now c.args.next c.in-Some.c c.in-Some.end tag_hyphen c.requires.hyphen.place c.in-Some.ensures (hyphen_other c.in-Some.c (sym c.if-is_letter_or_digit.ensures)) refl) refl,
  λ _. pick_or c.args.text.now c.args.at 45 c.args.next tag_rest tag_hyphen None (Some (LanguageTag, c.args.at)) LanguageTag c.requires.place c.requires.hyphen rest_hyphen refl (pick_none c.args.text.now c.args.next c.in-Some.c c.in-Some.end tag_hyphen c.requires.hyphen.place c.in-Some.ensures (hyphen_other c.in-Some.c (sym c.if-is_letter_or_digit.ensures)) refl) refl,
)
