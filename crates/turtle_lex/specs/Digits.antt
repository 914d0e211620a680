-- The digits in an escape.
use Rattle.std.specs.Prelude.{ℕ, Bool, ◌==◌}
use Rattle.turtle_grammar.specs.Characters.{within, is_hex}
use Rattle.turtle_lex.specs.declared.escape.Digit.{Digit}
use Rattle.turtle_lex.specs.declared.escape.Digit.TheVariants.{Hex, Octal, Zero}

abbrev pub digit_class : Digit → ℕ → Bool
digit_class Hex = is_hex
digit_class Octal = within 48 55
digit_class Zero = λ c. c == 48
