-- The terminals of W3C Turtle 1.1, by their numbers there.
use Rattle.std.specs.Prelude.{ℕ, Bool, not, ◌==◌, ◌&&◌, List, [], ◌∷◌, codes}
use Rattle.std.specs.Char.{to_ascii_lowercase}
use Rattle.turtle_grammar.specs.Pattern.{Pattern, nothing, one, ◌then◌, ◌or◌, many, maybe, some, times, char, word}
use Rattle.turtle_grammar.specs.Characters.{within, among, is_white, is_line_end, is_digit, is_letter, is_letter_or_digit, is_hex, is_sign, is_exponent, is_excluded, is_escape, is_name_base, is_name_start, is_name_char, is_local_escape}
use Rattle.turtle_grammar.specs.declared.token.TokenKind.{TokenKind}
use Rattle.turtle_grammar.specs.declared.token.TokenKind.TheVariants.{Iri, Namespace, PrefixedName, BlankLabel, LanguageTag, Integer, Decimal, Double, String, SingleString, LongSingleString, LongString, Dot, Comma, Semicolon, OpenSquare, CloseSquare, OpenRound, CloseRound, DoubleCaret, A, True, False, Prefix, Base}

abbrev pub hex : Pattern
hex = one is_hex

-- the first digit of four that are no surrogate, with the second: not `D` or `d`, or an octal digit after it
abbrev pub is_hex_but_d : ℕ → Bool
is_hex_but_d c = is_hex c && not (among (codes "Dd") c)

-- four digits of a character below 0x10000
abbrev pub short_code : Pattern
short_code = (one is_hex_but_d then times 3 hex) or (one (among (codes "Dd")) then one (within 48 55) then times 2 hex)

-- eight digits of a character: at most 0x10FFFF, and no surrogate
abbrev pub long_code : Pattern
long_code = times 2 (char 48) then ((char 49 then char 48 then times 4 hex) or (char 48 then ((one (λ c. is_hex c && not (c == 48)) then times 4 hex) or (char 48 then short_code))))

-- UCHAR [26], of which the value is a character
abbrev pub uchar : Pattern
uchar = char 92 then ((char 117 then short_code) or (char 85 then long_code))

-- ECHAR [159s]
abbrev pub echar : Pattern
echar = char 92 then one is_escape

-- IRIREF [18]
unfoldable pub iriref : Pattern
iriref = char 60 then many (one (λ c. not (is_excluded c)) or uchar) then char 62

-- STRING_LITERAL_QUOTE [22] and STRING_LITERAL_SINGLE_QUOTE [23], by their quote
unfoldable pub short_string : ℕ → Pattern
short_string quote = char quote then many (one (λ c. not (among (quote ∷ 92 ∷ 10 ∷ 13 ∷ []) c)) or (echar or uchar)) then char quote

-- STRING_LITERAL_LONG_SINGLE_QUOTE [24] and STRING_LITERAL_LONG_QUOTE [25], by their quote
unfoldable pub long_string : ℕ → Pattern
long_string quote = times 3 (char quote) then many (maybe (char quote or (char quote then char quote)) then (one (λ c. not (among (quote ∷ 92 ∷ []) c)) or (echar or uchar))) then times 3 (char quote)

abbrev pub digits : Pattern
digits = some (one is_digit)

abbrev pub sign : Pattern
sign = maybe (one is_sign)

-- EXPONENT [154s]
abbrev pub exponent : Pattern
exponent = one is_exponent then sign then digits

-- INTEGER [19]
unfoldable pub integer : Pattern
integer = sign then digits

-- DECIMAL [20]
unfoldable pub decimal : Pattern
decimal = sign then many (one is_digit) then char 46 then digits

-- DOUBLE [21]
unfoldable pub double : Pattern
double = sign then ((digits then char 46 then many (one is_digit) then exponent) or (char 46 then digits then exponent) or (digits then exponent))

-- PLX [169s]: PERCENT [170s] or PN_LOCAL_ESC [172s]
abbrev pub plx : Pattern
plx = (char 37 then times 2 hex) or (char 92 then one is_local_escape)

-- what may follow the first character of a prefix or a label: no dot at its end
abbrev pub name_rest : Pattern
name_rest = maybe (many (one is_name_char or char 46) then one is_name_char)

-- PN_PREFIX [167s]
abbrev pub pn_prefix : Pattern
pn_prefix = one is_name_base then name_rest

-- PN_LOCAL [168s]
abbrev pub pn_local : Pattern
pn_local = (one is_name_start or char 58 or one is_digit or plx) then maybe (many (one is_name_char or char 46 or char 58 or plx) then (one is_name_char or char 58 or plx))

-- PNAME_NS [139s]
unfoldable pub pname_ns : Pattern
pname_ns = maybe pn_prefix then char 58

-- PNAME_LN [140s]
unfoldable pub pname_ln : Pattern
pname_ln = maybe pn_prefix then char 58 then pn_local

-- BLANK_NODE_LABEL [141s]
unfoldable pub blank_label : Pattern
blank_label = char 95 then char 58 then (one is_name_start or one is_digit) then name_rest

-- LANGTAG [144s]
unfoldable pub langtag : Pattern
langtag = char 64 then some (one is_letter) then many (char 45 then some (one is_letter_or_digit))

-- a word in any case, given in lower case
abbrev pub word_in_any_case : List ℕ → Pattern
word_in_any_case [] = nothing
word_in_any_case (c ∷ cs) = one (λ d. to_ascii_lowercase d == c) then word_in_any_case cs

-- the terminal of each kind of token
unfoldable pub pattern : TokenKind → Pattern
pattern Iri = iriref
pattern Namespace = pname_ns
pattern PrefixedName = pname_ln
pattern BlankLabel = blank_label
pattern LanguageTag = langtag
pattern Integer = integer
pattern Decimal = decimal
pattern Double = double
pattern String = short_string 34
pattern SingleString = short_string 39
pattern LongSingleString = long_string 39
pattern LongString = long_string 34
pattern Dot = word (codes ".")
pattern Comma = word (codes ",")
pattern Semicolon = word (codes ";")
pattern OpenSquare = word (codes "[")
pattern CloseSquare = word (codes "]")
pattern OpenRound = word (codes "(")
pattern CloseRound = word (codes ")")
pattern DoubleCaret = word (codes "^^")
pattern A = word (codes "a")
pattern True = word (codes "true")
pattern False = word (codes "false")
pattern Prefix = word_in_any_case (codes "prefix")
pattern Base = word_in_any_case (codes "base")

-- A comment's text, after which a line's end or the text's end stands.
abbrev pub comment : Pattern
comment = char 35 then many (one (λ c. not (is_line_end c)))

-- White space and comments between tokens.
unfoldable pub gap : Pattern
gap = many (one is_white or (comment then one is_line_end)) then maybe comment
