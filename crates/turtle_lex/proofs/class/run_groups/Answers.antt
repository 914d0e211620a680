use Rattle.std.proofs.Common.{refl, ap}
use Rattle.turtle_grammar.specs.Characters.{is_digit, is_letter, is_letter_or_digit}
use Rattle.turtle_lex.specs.declared.class.Class.TheVariants.{Alphanumeric}
use Rattle.turtle_lex.specs.declared.run.Run.TheVariants.{Digits, Letters, LettersOrDigits}
use Rattle.turtle_lex.proofs.Tables.{groups_of}
use Rattle.turtle_lex.proofs.class.run_groups.Goals as goal

pub returns-in-Digits : goal.returns-in-Digits
unfolding is_digit
returns-in-Digits c = groups_of (Alphanumeric c.args.run) (Alphanumeric Digits) 256 (ap (λ r. Alphanumeric r) c.in-Digits.is) refl

pub returns-in-Letters : goal.returns-in-Letters
unfolding is_letter
returns-in-Letters c = groups_of (Alphanumeric c.args.run) (Alphanumeric Letters) 512 (ap (λ r. Alphanumeric r) c.in-Letters.is) refl

pub returns-in-LettersOrDigits : goal.returns-in-LettersOrDigits
unfolding is_letter_or_digit is_letter is_digit
returns-in-LettersOrDigits c = groups_of (Alphanumeric c.args.run) (Alphanumeric LettersOrDigits) 768 (ap (λ r. Alphanumeric r) c.in-LettersOrDigits.is) refl
