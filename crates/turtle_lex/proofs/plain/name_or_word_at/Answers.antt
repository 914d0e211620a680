use Rattle.std.proofs.Common.{None, Some}
use Rattle.turtle_lex.specs.Kinds.{others, words}
use Rattle.turtle_lex.specs.Names.{prefix}
use Rattle.turtle_lex.proofs.Picked.{pick_through}
use Rattle.turtle_lex.proofs.Merge.{merge_right, name_wins}
use Rattle.turtle_lex.proofs.Starts.{starts_base, others_accept}
use Rattle.turtle_lex.proofs.plain.name_or_word_at.Goals as goal

pub returns-in-None : goal.returns-in-None
returns-in-None c =
    merge_right others words c.args.text.now c.args.at c.word_at.result (pick_through c.args.text.now c.args.at c.args.c c.args.next others prefix None c.requires.place c.requires.reads (starts_base c.args.c c.requires.letter) others_accept c.in-None.ensures) c.word_at.ensures

pub returns-in-Some : goal.returns-in-Some
returns-in-Some c =
    name_wins c.args.text.now c.args.at c.args.c c.args.next c.in-Some.name c.requires.reads c.in-Some.ensures (pick_through c.args.text.now c.args.at c.args.c c.args.next others prefix (Some c.in-Some.name) c.requires.place c.requires.reads (starts_base c.args.c c.requires.letter) others_accept c.in-Some.ensures)
