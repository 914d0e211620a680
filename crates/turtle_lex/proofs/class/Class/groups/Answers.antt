use Rattle.std.proofs.Common.{refl}
use Rattle.turtle_grammar.specs.Characters.{is_white, is_line_end, is_digit, is_letter, is_name_base, is_name_start, is_name_char}
use Rattle.turtle_lex.specs.declared.class.Class.TheVariants.{White, Comment, Name, LocalName}
use Rattle.turtle_lex.proofs.Tables.{groups_of}
use Rattle.turtle_lex.proofs.class.Class.groups.Goals as goal

pub returns-in-White : goal.returns-in-White
unfolding is_white
returns-in-White c = groups_of c.args.self White 3 c.in-White.is refl

pub returns-in-Comment : goal.returns-in-Comment
unfolding is_line_end
returns-in-Comment c = groups_of c.args.self Comment 4093 c.in-Comment.is refl

pub returns-in-Name : goal.returns-in-Name
unfolding is_name_char is_name_start is_name_base is_letter is_digit
returns-in-Name c = groups_of c.args.self Name 832 c.in-Name.is refl

pub returns-in-LocalName : goal.returns-in-LocalName
unfolding is_name_char is_name_start is_name_base is_letter is_digit
returns-in-LocalName c = groups_of c.args.self LocalName 960 c.in-LocalName.is refl
