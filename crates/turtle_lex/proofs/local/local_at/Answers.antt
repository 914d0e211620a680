use Rattle.std.proofs.Common.{refl, sym, None, Some}
use Rattle.turtle_grammar.specs.Characters.{is_local_escape}
use Rattle.turtle_grammar.specs.Pattern.{one, times}
use Rattle.turtle_grammar.specs.Terminals.{hex}
use Rattle.turtle_grammar.specs.declared.token.TokenKind.TheVariants.{Namespace, PrefixedName}
use Rattle.turtle_lex.specs.Names.{colon, local, first_within}
use Rattle.turtle_lex.proofs.Picked.{pick_or, pick_only, pick_only_last}
use Rattle.turtle_lex.proofs.LocalSteps.{colon_percent, colon_backslash, colon_first, colon_not, at_char}
use Rattle.turtle_lex.proofs.local.local_at.Goals as goal

pub returns-in-None : goal.returns-in-None
returns-in-None c =
    pick_only_last c.args.text.now c.args.at colon Namespace c.requires c.in-None.ensures refl

pub returns-then-is_local_start : goal.returns-then-is_local_start
returns-then-is_local_start c =
    pick_or c.args.text.now c.args.at c.in-Some.c c.in-Some.next colon local (Some (PrefixedName, c.local_end-end.result)) (Some (PrefixedName, c.local_end-end.result)) Namespace c.requires c.in-Some.ensures (colon_first c.in-Some.c (sym c.if-is_local_start.ensures)) refl c.local_end-end.ensures refl

pub returns-in-None-digits_end : goal.returns-in-None-digits_end
returns-in-None-digits_end c =
    pick_or c.args.text.now c.args.at c.in-Some.c c.in-Some.next colon (first_within (times 2 hex)) None (Some (Namespace, c.args.at)) Namespace c.requires c.in-Some.ensures (at_char colon (first_within (times 2 hex)) c.in-Some.c 37 c.if-c-eq37.true colon_percent) refl c.in-None-digits_end.ensures.0 refl

pub returns-in-Some-digits_end : goal.returns-in-Some-digits_end
returns-in-Some-digits_end c =
    pick_or c.args.text.now c.args.at c.in-Some.c c.in-Some.next colon (first_within (times 2 hex)) (Some (PrefixedName, c.local_end-end-in-Some-digits_end.result)) (Some (PrefixedName, c.local_end-end-in-Some-digits_end.result)) Namespace c.requires c.in-Some.ensures (at_char colon (first_within (times 2 hex)) c.in-Some.c 37 c.if-c-eq37.true colon_percent) refl (c.in-Some-digits_end.ensures.2 (PrefixedName, c.local_end-end-in-Some-digits_end.result) c.local_end-end-in-Some-digits_end.ensures) refl

pub returns-in-None-escaped_end : goal.returns-in-None-escaped_end
returns-in-None-escaped_end c =
    pick_or c.args.text.now c.args.at c.in-Some.c c.in-Some.next colon (first_within (one is_local_escape)) None (Some (Namespace, c.args.at)) Namespace c.requires c.in-Some.ensures (at_char colon (first_within (one is_local_escape)) c.in-Some.c 92 c.if-c-eq92.true colon_backslash) refl c.in-None-escaped_end.ensures.0 refl

pub returns-in-Some-escaped_end : goal.returns-in-Some-escaped_end
returns-in-Some-escaped_end c =
    pick_or c.args.text.now c.args.at c.in-Some.c c.in-Some.next colon (first_within (one is_local_escape)) (Some (PrefixedName, c.local_end-end-in-Some-escaped_end.result)) (Some (PrefixedName, c.local_end-end-in-Some-escaped_end.result)) Namespace c.requires c.in-Some.ensures (at_char colon (first_within (one is_local_escape)) c.in-Some.c 92 c.if-c-eq92.true colon_backslash) refl (c.in-Some-escaped_end.ensures.2 (PrefixedName, c.local_end-end-in-Some-escaped_end.result) c.local_end-end-in-Some-escaped_end.ensures) refl

pub returns-else-c-eq92 : goal.returns-else-c-eq92
returns-else-c-eq92 c =
    pick_only c.args.text.now c.args.at c.in-Some.c c.in-Some.next colon Namespace c.requires c.in-Some.ensures (colon_not c.in-Some.c (sym c.if-is_local_start.ensures) c.if-c-eq37.false c.if-c-eq92.false) refl
