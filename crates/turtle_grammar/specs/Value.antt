-- What the texts of tokens stand for: W3C Turtle 1.1, sections 6.3 and 6.4. A token's text is the bytes of its UTF-8.
use Rattle.std.specs.Prelude.{ℕ, zero, suc, ◌+◌, ◌*◌, ◌-◌, ◌==◌, not, List, [], ◌∷◌, nat_lt, length, take, drop, fold, filter, if◌then◌else◌, encode_utf8_all}
use Rattle.std.specs.Char.{digit_value}
use Rattle.std.specs.List.{before_first, after_first}
use Rattle.std.specs.Str.{chars}
use Rattle.turtle_grammar.specs.Tree.{Quoting}
use Rattle.turtle_grammar.specs.Tree.Quoting.{double, single, long_double, long_single}
use lib.Utf8.{scalar}

-- a text without its first n characters and its last n
abbrev pub inside : ℕ → List ℕ → List ℕ
inside n text = take (length text - (n + n)) (drop n text)

-- the number that hexadecimal digits write
abbrev pub number_of : List ℕ → ℕ
number_of digits = fold (λ n c. 16 * n + (if nat_lt (digit_value c) 16 then digit_value c else 0)) 0 digits

-- the character of a number; for numbers of none, which no token has, it is U+FFFD
abbrev pub character : ℕ → ℕ
character n = if scalar n then n else 0xFFFD

-- the character that a letter after a backslash names; quotes and the backslash name themselves
abbrev pub letter_value : ℕ → ℕ
letter_value c =
    if c == 116 then 9 else if c == 98 then 8 else if c == 110 then 10 else if c == 114 then 13 else if c == 102 then 12 else c

-- what a text after a backslash begins with: UCHAR [26], `u` and four digits or `U` and eight, or ECHAR [159s], a letter
abbrev pub escape_len : List ℕ → ℕ
escape_len [] = 0
escape_len (c ∷ rest) = if c == 117 then 5 else if c == 85 then 9 else 1

-- the character that it stands for
abbrev pub escape_value : List ℕ → ℕ
escape_value [] = 92
escape_value (c ∷ rest) =
    if c == 117 then character (number_of (take 4 rest)) else
    if c == 85 then character (number_of (take 8 rest)) else letter_value c

-- at most n characters or escapes of a text, each escape by its character
abbrev pub unescaped_up_to : ℕ → List ℕ → List ℕ
unescaped_up_to zero text = []
unescaped_up_to (suc n) [] = []
unescaped_up_to (suc n) (c ∷ rest) =
    if c == 92 then escape_value rest ∷ unescaped_up_to n (drop (escape_len rest) rest) else c ∷ unescaped_up_to n rest

-- a text with each escape by its character
abbrev pub unescaped : List ℕ → List ℕ
unescaped text = unescaped_up_to (length text) text

-- what stands within n quotes or one pair of angle brackets, in UTF-8
abbrev pub content : ℕ → List ℕ → List ℕ
content n text = encode_utf8_all (unescaped (inside n (chars text)))

-- what an IRIREF [18] has between its angle brackets
abbrev pub reference_of : List ℕ → List ℕ
reference_of text = content 1 text

-- how many quotes stand at each end
abbrev pub quotes : Quoting → ℕ
quotes double = 1
quotes single = 1
quotes long_double = 3
quotes long_single = 3

-- what a string has between its quotes
abbrev pub string_of : Quoting → List ℕ → List ℕ
string_of quoting text = content (quotes quoting) text

-- the prefix of a prefixed name: what stands before its first colon
abbrev pub prefix_of : List ℕ → List ℕ
prefix_of text = before_first (λ c. c == 58) text

-- The local name: what stands after that colon. A backslash stands only before an escaped character, which is no backslash, and stands
-- for nothing; `%` and its digits stay as they are.
abbrev pub local_of : List ℕ → List ℕ
local_of text = encode_utf8_all (filter (λ c. not (c == 92)) (chars (after_first (λ c. c == 58) text)))

-- a language tag without its `@`
abbrev pub tag_of : List ℕ → List ℕ
tag_of text = after_first (λ c. c == 64) text
