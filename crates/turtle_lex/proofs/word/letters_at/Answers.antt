use Rattle.std.proofs.Common.{sym, None, Some}
use Rattle.turtle_lex.proofs.Starts.{letters_on, letters_stop, letters_cut, letters_whole}
use Rattle.turtle_lex.proofs.word.letters_at.Goals as goal

pub char_at-requires : goal.char_at-requires
char_at-requires c =
    c.loop-letter.invariant.0

pub returns-in-None : goal.returns-in-None
returns-in-None c =
    c.loop-letter.invariant.1 None (letters_cut c.args.in_any_case c.args.kind c.args.word.now c.loop-letter.letter-index c.args.text.now c.loop-letter.at c.loop-letter-test.true c.loop-letter.invariant.0 c.in-None.ensures)

pub returns-then-not-is_letter : goal.returns-then-not-is_letter
returns-then-not-is_letter c =
    c.loop-letter.invariant.1 None (letters_stop c.args.in_any_case c.args.kind c.args.word.now c.loop-letter.letter-index c.args.text.now c.loop-letter.at c.in-Some.c c.in-Some.next c.loop-letter-test.true c.loop-letter.invariant.0 c.in-Some.ensures (sym c.if-not-is_letter.ensures))

pub loop-letter-preserved : goal.loop-letter-preserved
loop-letter-preserved c =
    (c.in-Some.ensures.place, λ found k. c.loop-letter.invariant.1 found (letters_on c.args.in_any_case c.args.kind c.args.word.now c.loop-letter.letter-index c.args.text.now c.loop-letter.at c.in-Some.c c.in-Some.next found c.loop-letter-test.true c.loop-letter.invariant.0 c.in-Some.ensures (sym c.if-not-is_letter.ensures) k))

pub returns : goal.returns
returns c =
    c.loop-letter.invariant.1 (Some (c.args.kind, c.loop-letter.at)) (letters_whole c.args.in_any_case c.args.kind c.args.word.now c.loop-letter.letter-index c.args.text.now c.loop-letter.at c.loop-letter-test.false c.loop-letter.invariant.0)
