use Rattle.std.proofs.Common.{[], ◌∷◌, sym, Some, true, false, codes}
use Rattle.turtle_grammar.specs.Pattern.{nothing}
use Rattle.turtle_grammar.specs.declared.token.TokenKind.TheVariants.{A, True, False, Prefix, Base}
use Rattle.turtle_lex.specs.Kinds.{wanting, words, letters}
use Rattle.turtle_lex.proofs.Picked.{pick_through, pick_none, pick_done}
use Rattle.turtle_lex.proofs.Starts.{word_a, word_t, word_f, word_p, word_b, word_none, words_accept}
use Rattle.turtle_lex.proofs.word.word_at.Goals as goal

pub returns-then-c-eq97 : goal.returns-then-c-eq97
returns-then-c-eq97 c =
    pick_through c.args.text.now c.args.at c.args.c c.args.next words (wanting A nothing ∷ []) (Some (A, c.args.next)) c.requires.place c.requires.reads (word_a c.args.c c.if-c-eq97.true) words_accept (pick_done c.args.text.now c.args.next A c.requires.reads.place)

pub returns-then-c-eq116 : goal.returns-then-c-eq116
returns-then-c-eq116 c =
    pick_through c.args.text.now c.args.at c.args.c c.args.next words (wanting True (letters false (codes "rue")) ∷ []) c.letters_at.result c.requires.place c.requires.reads (word_t c.args.c c.if-c-eq116.true) words_accept c.letters_at.ensures

pub returns-then-c-eq102 : goal.returns-then-c-eq102
returns-then-c-eq102 c =
    pick_through c.args.text.now c.args.at c.args.c c.args.next words (wanting False (letters false (codes "alse")) ∷ []) c.letters_at-then-c-eq102.result c.requires.place c.requires.reads (word_f c.args.c c.if-c-eq102.true) words_accept c.letters_at-then-c-eq102.ensures

pub returns-then-is_letter : goal.returns-then-is_letter
returns-then-is_letter c =
    pick_through c.args.text.now c.args.at c.args.c c.args.next words (wanting Prefix (letters true (codes "refix")) ∷ []) c.letters_at-then-is_letter.result c.requires.place c.requires.reads (word_p c.args.c c.if-c-eq97.false c.if-c-eq116.false c.if-c-eq102.false (sym c.if-is_letter.ensures)) words_accept c.letters_at-then-is_letter.ensures

pub returns-then-is_letter-2 : goal.returns-then-is_letter-2
returns-then-is_letter-2 c =
    pick_through c.args.text.now c.args.at c.args.c c.args.next words (wanting Base (letters true (codes "ase")) ∷ []) c.letters_at-then-is_letter-2.result c.requires.place c.requires.reads (word_b c.args.c c.if-c-eq97.false c.if-c-eq116.false c.if-c-eq102.false (sym c.if-is_letter.ensures) (sym c.if-is_letter-2.ensures)) words_accept c.letters_at-then-is_letter-2.ensures

pub returns-else-is_letter-2 : goal.returns-else-is_letter-2
returns-else-is_letter-2 c =
    pick_none c.args.text.now c.args.at c.args.c c.args.next words c.requires.place c.requires.reads (word_none c.args.c c.if-c-eq97.false c.if-c-eq116.false c.if-c-eq102.false (sym c.if-is_letter.ensures) (sym c.if-is_letter-2.ensures)) words_accept
