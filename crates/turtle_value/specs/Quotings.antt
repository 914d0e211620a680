-- The quotes of the code, in the words of the grammar.
use Rattle.turtle_grammar.specs.Tree.{Quoting}
use Rattle.turtle_grammar.specs.Tree.Quoting.{double, single, long_double, long_single}
use Rattle.turtle_value.specs.declared.quoted.Quotes.{Quotes}
use Rattle.turtle_value.specs.declared.quoted.Quotes.TheVariants.{Double, Single, LongDouble, LongSingle}

abbrev pub quoting_of : Quotes → Quoting
quoting_of Double = double
quoting_of Single = single
quoting_of LongDouble = long_double
quoting_of LongSingle = long_single
