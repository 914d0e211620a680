use Rattle.std.proofs.Common.{refl}
use Rattle.std.proofs.lemmas.Bool.{ne_eqb}
use Rattle.turtle_grammar.specs.declared.token.TokenKind.TheVariants.{LanguageTag}
use Rattle.turtle_lex.specs.Tags.{tag_letters, tag_rest}
use Rattle.turtle_lex.proofs.Picked.{pick_only, pick_only_last}
use Rattle.turtle_lex.proofs.TagSteps.{letters_other, rest_other}
use Rattle.turtle_lex.proofs.tag.hyphen_at.Goals as goal

pub returns-in-None : goal.returns-in-None
returns-in-None c = (
  λ _. pick_only_last c.args.text.now c.args.at tag_letters LanguageTag c.requires c.in-None.ensures refl,
  λ _. pick_only_last c.args.text.now c.args.at tag_rest LanguageTag c.requires c.in-None.ensures refl,
)

pub returns-else-c-eq45 : goal.returns-else-c-eq45
returns-else-c-eq45 c = (
  λ more. pick_only c.args.text.now c.args.at c.in-Some.c c.in-Some.next tag_letters LanguageTag c.requires c.in-Some.ensures (letters_other c.in-Some.c (more c.in-Some.c c.in-Some.next c.in-Some.ensures) (ne_eqb c.in-Some.c 45 c.if-c-eq45.false)) refl,
  λ more. pick_only c.args.text.now c.args.at c.in-Some.c c.in-Some.next tag_rest LanguageTag c.requires c.in-Some.ensures (rest_other c.in-Some.c (more c.in-Some.c c.in-Some.next c.in-Some.ensures) (ne_eqb c.in-Some.c 45 c.if-c-eq45.false)) refl,
)
