use Rattle.std.proofs.Common.{subst}
use Rattle.turtle_grammar.specs.Spans.{LiesFrom}
use Rattle.turtle_grammar.proofs.Spans.{rising_spans}
use Rattle.turtle_lex.specs.Reading.{Reading}
use Rattle.turtle_lex.proofs.Assembly.{place_from, place_kept}
use Rattle.turtle_lex.proofs.lexer.next.Goals as goal

pub token_from-requires : goal.token_from-requires
token_from-requires c = place_from c.lexer.inside.text.now c.lexer.inside.at c.lexer.invariant.0 c.lexer.invariant.1

pub invariant_of-lexer : goal.invariant_of-lexer
invariant_of-lexer c =
    let ends = rw c.in-Ok-Some.field-0-is at c.in-Ok-Some.ensures in
    place_kept c.lexer.inside.text.now c.in-Ok-Some.token.upto ends.place

pub returns-in-Ok-Some-clause-rising : goal.returns-in-Ok-Some-clause-rising
returns-in-Ok-Some-clause-rising c =
    let found = rw c.in-Ok-Some.field-0-is at c.in-Ok-Some.ensures in
    let place = place_from c.lexer.inside.text.now c.lexer.inside.at c.lexer.invariant.0 c.lexer.invariant.1 in
    subst (λ (r : Reading). LiesFrom r.text r.at c.in-Ok-Some.token) c.lexer.view_is
    (rising_spans c.lexer.inside.text.now c.lexer.inside.at c.in-Ok-Some.token place.inside place.utf8 found.value)
