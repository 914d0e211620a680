-- What may follow in a number.
use Rattle.std.specs.Prelude.{List, [], ◌∷◌}
use Rattle.turtle_grammar.specs.Pattern.{one, ◌then◌, ◌or◌, many, char}
use Rattle.turtle_grammar.specs.Characters.{is_digit}
use Rattle.turtle_grammar.specs.Terminals.{digits, sign, exponent}
use Rattle.turtle_grammar.specs.declared.token.TokenKind.TheVariants.{Integer, Decimal, Double}
use Rattle.turtle_lex.specs.Picks.{Candidate}

-- after a sign
abbrev pub unsigned : List Candidate
unsigned =
    record { kind = Integer; wanted = digits }
    ∷ record { kind = Decimal; wanted = many (one is_digit) then char 46 then digits }
    ∷ record { kind = Double; wanted = (digits then char 46 then many (one is_digit) then exponent) or (char 46 then digits then exponent) or (digits then exponent) }
    ∷ []

-- after some digits
abbrev pub whole : List Candidate
whole =
    record { kind = Integer; wanted = many (one is_digit) }
    ∷ record { kind = Decimal; wanted = many (one is_digit) then char 46 then digits }
    ∷ record { kind = Double; wanted = (many (one is_digit) then char 46 then many (one is_digit) then exponent) or (many (one is_digit) then exponent) }
    ∷ []

-- after digits and a dot
abbrev pub dot : List Candidate
dot = record { kind = Decimal; wanted = digits } ∷ record { kind = Double; wanted = many (one is_digit) then exponent } ∷ []

-- after a dot alone
abbrev pub first_dot : List Candidate
first_dot = record { kind = Decimal; wanted = digits } ∷ record { kind = Double; wanted = digits then exponent } ∷ []

-- after a dot and digits
abbrev pub fraction : List Candidate
fraction = record { kind = Decimal; wanted = many (one is_digit) } ∷ record { kind = Double; wanted = many (one is_digit) then exponent } ∷ []

-- after the letter of an exponent, after its sign, after its first digit
abbrev pub exponent_sign : List Candidate
exponent_sign = record { kind = Double; wanted = sign then digits } ∷ []

abbrev pub exponent_digits : List Candidate
exponent_digits = record { kind = Double; wanted = digits } ∷ []

abbrev pub exponent_rest : List Candidate
exponent_rest = record { kind = Double; wanted = many (one is_digit) } ∷ []
