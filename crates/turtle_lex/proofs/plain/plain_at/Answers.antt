use Rattle.std.proofs.Common.{[], ◌∷◌, sym, Some}
use Rattle.turtle_grammar.specs.Pattern.{nothing}
use Rattle.turtle_lex.specs.Kinds.{wanting, tokens, dot_start, underscore, caret}
use Rattle.turtle_lex.specs.Names.{colon}
use Rattle.turtle_lex.specs.Numbers.{unsigned, whole}
use Rattle.turtle_lex.specs.Tags.{tag_start}
use Rattle.turtle_lex.proofs.Picked.{pick_through, pick_none, pick_done}
use Rattle.turtle_lex.proofs.Starts.{starts_dot, starts_colon, starts_underscore, starts_at, starts_caret, starts_digit, starts_sign, starts_none, tokens_accept}
use Rattle.turtle_lex.proofs.plain.plain_at.Goals as goal

pub returns-in-Some : goal.returns-in-Some
returns-in-Some c =
    pick_through c.args.text.now c.args.at c.args.c c.args.next tokens (wanting c.in-Some.kind nothing ∷ []) (Some (c.in-Some.kind, c.args.next)) c.requires.place c.requires.reads c.in-Some.ensures tokens_accept (pick_done c.args.text.now c.args.next c.in-Some.kind c.requires.reads.place)

pub returns-then-is_digit : goal.returns-then-is_digit
returns-then-is_digit c =
    pick_through c.args.text.now c.args.at c.args.c c.args.next tokens whole c.whole_at.result c.requires.place c.requires.reads (starts_digit c.args.c (sym c.if-is_digit.ensures)) tokens_accept c.whole_at.ensures

pub returns-then-is_sign : goal.returns-then-is_sign
returns-then-is_sign c =
    pick_through c.args.text.now c.args.at c.args.c c.args.next tokens unsigned c.unsigned_at.result c.requires.place c.requires.reads (starts_sign c.args.c (sym c.if-is_sign.ensures)) tokens_accept c.unsigned_at.ensures

pub returns-then-c-eq46 : goal.returns-then-c-eq46
returns-then-c-eq46 c =
    pick_through c.args.text.now c.args.at c.args.c c.args.next tokens dot_start c.dot_start_at.result c.requires.place c.requires.reads (starts_dot c.args.c c.if-c-eq46.true) tokens_accept c.dot_start_at.ensures

pub returns-then-c-eq58 : goal.returns-then-c-eq58
returns-then-c-eq58 c =
    pick_through c.args.text.now c.args.at c.args.c c.args.next tokens colon c.local_at.result c.requires.place c.requires.reads (starts_colon c.args.c c.if-c-eq58.true) tokens_accept c.local_at.ensures

pub returns-then-c-eq95 : goal.returns-then-c-eq95
returns-then-c-eq95 c =
    pick_through c.args.text.now c.args.at c.args.c c.args.next tokens underscore c.underscore_at.result c.requires.place c.requires.reads (starts_underscore c.args.c c.if-c-eq95.true) tokens_accept c.underscore_at.ensures

pub returns-then-c-eq64 : goal.returns-then-c-eq64
returns-then-c-eq64 c =
    pick_through c.args.text.now c.args.at c.args.c c.args.next tokens tag_start c.tag_at.result c.requires.place c.requires.reads (starts_at c.args.c c.if-c-eq64.true) tokens_accept c.tag_at.ensures

pub returns-then-c-eq94 : goal.returns-then-c-eq94
returns-then-c-eq94 c =
    pick_through c.args.text.now c.args.at c.args.c c.args.next tokens caret c.caret_at.result c.requires.place c.requires.reads (starts_caret c.args.c c.if-c-eq94.true) tokens_accept c.caret_at.ensures

pub returns-in-None : goal.returns-in-None
returns-in-None c =
    let m = c.in-None.ensures in
    pick_none c.args.text.now c.args.at c.args.c c.args.next tokens c.requires.place c.requires.reads
    (starts_none c.args.c (sym c.if-is_digit.ensures) (sym c.if-is_sign.ensures) (sym c.if-is_name_base.ensures) c.requires.no_angle c.requires.no_double c.requires.no_single c.if-c-eq46.false m.0 m.1 m.2 m.3 m.4 m.5 c.if-c-eq94.false c.if-c-eq58.false c.if-c-eq95.false c.if-c-eq64.false)
    tokens_accept
