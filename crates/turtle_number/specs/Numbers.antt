-- A text's parts make it a number by the same production of W3C Turtle 1.1 as its characters do.
use Rattle.std.specs.Prelude.{◌≡◌, ℕ, List}
use Rattle.lv_base.specs.Decimal.{numeral_of, is_integer, is_decimal, is_double}
use Rattle.turtle_grammar.specs.Pattern.{matches}
use Rattle.turtle_grammar.specs.Terminals.{integer, decimal, double}

-- INTEGER [19]
abbrev pub IntegersAgree : Type 0
IntegersAgree = (text : List ℕ) → is_integer (numeral_of text) ≡ matches integer text

-- DECIMAL [20]
abbrev pub DecimalsAgree : Type 0
DecimalsAgree = (text : List ℕ) → is_decimal (numeral_of text) ≡ matches decimal text

-- DOUBLE [21]
abbrev pub DoublesAgree : Type 0
DoublesAgree = (text : List ℕ) → is_double (numeral_of text) ≡ matches double text
