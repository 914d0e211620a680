use Rattle.std.proofs.Common.{[], ◌∷◌, refl, Some}
use Rattle.turtle_grammar.specs.Pattern.{nothing}
use Rattle.turtle_grammar.specs.declared.token.TokenKind.TheVariants.{DoubleCaret}
use Rattle.turtle_lex.specs.Kinds.{wanting, caret}
use Rattle.turtle_lex.proofs.Picked.{pick_through, pick_none, pick_none_last, pick_done}
use Rattle.turtle_lex.proofs.Starts.{caret_again, caret_other}
use Rattle.turtle_lex.proofs.plain.caret_at.Goals as goal

pub returns-in-None : goal.returns-in-None
returns-in-None c =
    pick_none_last c.args.text.now c.args.at caret c.requires c.in-None.ensures refl

pub returns-then-c-eq94 : goal.returns-then-c-eq94
returns-then-c-eq94 c =
    pick_through c.args.text.now c.args.at c.in-Some.c c.in-Some.next caret (wanting DoubleCaret nothing ∷ []) (Some (DoubleCaret, c.in-Some.next)) c.requires c.in-Some.ensures (caret_again c.in-Some.c c.if-c-eq94.true) refl (pick_done c.args.text.now c.in-Some.next DoubleCaret c.in-Some.ensures.place)

pub returns-else-c-eq94 : goal.returns-else-c-eq94
returns-else-c-eq94 c =
    pick_none c.args.text.now c.args.at c.in-Some.c c.in-Some.next caret c.requires c.in-Some.ensures (caret_other c.in-Some.c c.if-c-eq94.false) refl
