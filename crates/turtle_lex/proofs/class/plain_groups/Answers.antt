use Rattle.std.proofs.Common.{refl, ap}
use Rattle.turtle_grammar.specs.Characters.{is_excluded}
use Rattle.turtle_lex.specs.declared.class.Class.TheVariants.{Plain}
use Rattle.turtle_lex.specs.declared.enclosure.Enclosure.TheVariants.{Angle, Double, Single, LongDouble, LongSingle}
use Rattle.turtle_lex.proofs.Tables.{groups_of}
use Rattle.turtle_lex.proofs.class.plain_groups.Goals as goal

pub returns-in-Angle : goal.returns-in-Angle
unfolding is_excluded
returns-in-Angle c = groups_of (Plain c.args.enclosure) (Plain Angle) 4040 (ap (λ e. Plain e) c.in-Angle.is) refl

pub returns-in-Double : goal.returns-in-Double
returns-in-Double c = groups_of (Plain c.args.enclosure) (Plain Double) 4073 (ap (λ e. Plain e) c.in-Double.is) refl

pub returns-in-Single : goal.returns-in-Single
returns-in-Single c = groups_of (Plain c.args.enclosure) (Plain Single) 4069 (ap (λ e. Plain e) c.in-Single.is) refl

pub returns-in-LongDouble : goal.returns-in-LongDouble
returns-in-LongDouble c = groups_of (Plain c.args.enclosure) (Plain LongDouble) 4075 (ap (λ e. Plain e) c.in-LongDouble.is) refl

pub returns-in-LongSingle : goal.returns-in-LongSingle
returns-in-LongSingle c = groups_of (Plain c.args.enclosure) (Plain LongSingle) 4071 (ap (λ e. Plain e) c.in-LongSingle.is) refl
