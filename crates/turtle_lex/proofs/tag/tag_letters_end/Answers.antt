use Rattle.std.proofs.Common.{Some}
use Rattle.turtle_grammar.specs.declared.token.TokenKind.TheVariants.{LanguageTag}
use Rattle.turtle_lex.specs.Tags.{tag_letters}
use Rattle.turtle_lex.proofs.TagSteps.{letters_loops}
use Rattle.turtle_lex.proofs.tag.tag_letters_end.Goals as goal

pub returns-in-None : goal.returns-in-None
returns-in-None c =
    c.end-end.ensures.carries tag_letters letters_loops (Some (LanguageTag, c.end-end.result)) (c.in-None.ensures.0 c.end-end.ensures.stops)

pub returns-in-Some : goal.returns-in-Some
returns-in-Some c =
    c.end-end.ensures.carries tag_letters letters_loops (Some (LanguageTag, c.subtags_end.result)) (c.in-Some.ensures.2 (LanguageTag, c.subtags_end.result) c.subtags_end.ensures)
