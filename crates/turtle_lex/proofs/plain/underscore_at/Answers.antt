use Rattle.std.proofs.Common.{refl}
use Rattle.turtle_lex.specs.Kinds.{underscore}
use Rattle.turtle_lex.specs.Names.{label_start}
use Rattle.turtle_lex.proofs.Picked.{pick_through, pick_none, pick_none_last}
use Rattle.turtle_lex.proofs.Starts.{underscore_colon, underscore_other}
use Rattle.turtle_lex.proofs.plain.underscore_at.Goals as goal

pub returns-in-None : goal.returns-in-None
returns-in-None c =
    pick_none_last c.args.text.now c.args.at underscore c.requires c.in-None.ensures refl

pub returns-then-c-eq58 : goal.returns-then-c-eq58
returns-then-c-eq58 c =
    pick_through c.args.text.now c.args.at c.in-Some.c c.in-Some.next underscore label_start c.label_at.result c.requires c.in-Some.ensures (underscore_colon c.in-Some.c c.if-c-eq58.true) refl c.label_at.ensures

pub returns-else-c-eq58 : goal.returns-else-c-eq58
returns-else-c-eq58 c =
    pick_none c.args.text.now c.args.at c.in-Some.c c.in-Some.next underscore c.requires c.in-Some.ensures (underscore_other c.in-Some.c c.if-c-eq58.false) refl
