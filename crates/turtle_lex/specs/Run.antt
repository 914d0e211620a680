-- The classes of which a token has a whole run.
use Rattle.std.specs.Prelude.{ℕ, Bool}
use Rattle.turtle_grammar.specs.Characters.{is_digit, is_letter, is_letter_or_digit}
use Rattle.turtle_lex.specs.declared.run.Run.{Run}
use Rattle.turtle_lex.specs.declared.run.Run.TheVariants.{Digits, Letters, LettersOrDigits}

abbrev pub run_class : Run → ℕ → Bool
run_class Digits = is_digit
run_class Letters = is_letter
run_class LettersOrDigits = is_letter_or_digit
