use Rattle.std.proofs.Common.{refl, sym, Some}
use Rattle.turtle_grammar.specs.declared.token.TokenKind.TheVariants.{LanguageTag}
use Rattle.turtle_lex.specs.Tags.{tag_start, tag_letters}
use Rattle.turtle_lex.proofs.Picked.{pick_through, pick_none, pick_none_last}
use Rattle.turtle_lex.proofs.TagSteps.{start_letter, start_other}
use Rattle.turtle_lex.proofs.tag.tag_at.Goals as goal

pub returns-in-None : goal.returns-in-None
returns-in-None c =
    pick_none_last c.args.text.now c.args.at tag_start c.requires c.in-None.ensures refl

pub returns-then-is_letter : goal.returns-then-is_letter
returns-then-is_letter c =
    pick_through c.args.text.now c.args.at c.in-Some.c c.in-Some.next tag_start tag_letters (Some (LanguageTag, c.tag_letters_end-end.result)) c.requires c.in-Some.ensures (start_letter c.in-Some.c (sym c.if-is_letter.ensures)) refl c.tag_letters_end-end.ensures

pub returns-else-is_letter : goal.returns-else-is_letter
returns-else-is_letter c =
    pick_none c.args.text.now c.args.at c.in-Some.c c.in-Some.next tag_start c.requires c.in-Some.ensures (start_other c.in-Some.c (sym c.if-is_letter.ensures)) refl
