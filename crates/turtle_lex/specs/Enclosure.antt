-- What stands between `<` and `>` or between quotes.
use Rattle.std.specs.Prelude.{ℕ, Bool, false, not, ◌==◌, ◌&&◌, zero, suc, [], ◌∷◌}
use Rattle.turtle_grammar.specs.Pattern.{Pattern, nothing, one, ◌then◌, ◌or◌, many, maybe, times, char}
use Rattle.turtle_grammar.specs.Characters.{among, is_hex, is_excluded, is_escape}
use Rattle.turtle_grammar.specs.Terminals.{hex, short_code, long_code, uchar, echar}
use Rattle.turtle_lex.specs.declared.enclosure.Enclosure.{Enclosure}
use Rattle.turtle_lex.specs.declared.enclosure.Enclosure.TheVariants.{Angle, Double, Single, LongDouble, LongSingle}

-- the character that closes
abbrev pub closing : Enclosure → ℕ
closing Angle = 62
closing Double = 34
closing Single = 39
closing LongDouble = 34
closing LongSingle = 39

-- a character that stands for itself
abbrev pub plain : Enclosure → ℕ → Bool
plain Angle c = not (is_excluded c)
plain Double c = not (among (34 ∷ 92 ∷ 10 ∷ 13 ∷ []) c)
plain Single c = not (among (39 ∷ 92 ∷ 10 ∷ 13 ∷ []) c)
plain LongDouble c = not (among (34 ∷ 92 ∷ []) c)
plain LongSingle c = not (among (39 ∷ 92 ∷ []) c)

abbrev pub escapes : Enclosure → Pattern
escapes Angle = uchar
escapes Double = echar or uchar
escapes Single = echar or uchar
escapes LongDouble = echar or uchar
escapes LongSingle = echar or uchar

-- the last five and the last six of eight digits
abbrev pub low_plane_code : Pattern
low_plane_code = (one (λ c. is_hex c && not (c == 48)) then times 4 hex) or (char 48 then short_code)

abbrev pub plane_code : Pattern
plane_code = (char 49 then char 48 then times 4 hex) or (char 48 then low_plane_code)

-- whether a letter may follow a backslash
abbrev pub letter_escape : Enclosure → ℕ → Bool
letter_escape Angle c = false
letter_escape Double c = is_escape c
letter_escape Single c = is_escape c
letter_escape LongDouble c = is_escape c
letter_escape LongSingle c = is_escape c

-- what follows a backslash: a character by its number
abbrev pub code_rest : Pattern
code_rest = (char 117 then short_code) or (char 85 then long_code)

abbrev pub escape_rest : Enclosure → Pattern
escape_rest Angle = code_rest
escape_rest Double = one is_escape or code_rest
escape_rest Single = one is_escape or code_rest
escape_rest LongDouble = one is_escape or code_rest
escape_rest LongSingle = one is_escape or code_rest

-- a character or an escape
abbrev pub piece : Enclosure → Pattern
piece e = one (plain e) or escapes e

-- what follows the opening of an IRI or a short string
abbrev pub body : Enclosure → Pattern
body e = many (piece e) then char (closing e)

-- a piece of a long string, with at most two quotes before it
abbrev pub long_piece : Enclosure → Pattern
long_piece e = maybe (char (closing e) or (char (closing e) then char (closing e))) then piece e

-- What follows the opening of a long string, where so many quotes stand before it.
abbrev pub long_body : Enclosure → ℕ → Pattern
long_body e zero = many (long_piece e) then times 3 (char (closing e))
long_body e (suc zero) = (((nothing or char (closing e)) then piece e) then many (long_piece e) then times 3 (char (closing e))) or times 2 (char (closing e))
long_body e (suc (suc n)) = (piece e then many (long_piece e) then times 3 (char (closing e))) or char (closing e)

-- A long string after its first quote, and after its second.
abbrev pub long_opening : Enclosure → ℕ → Pattern
long_opening e n = times n (char (closing e)) then many (long_piece e) then times 3 (char (closing e))
