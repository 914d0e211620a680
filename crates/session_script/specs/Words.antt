-- How a line is cut into words, and which words are names and numbers.
use Rattle.std.specs.Prelude.{ℕ, ◌+◌, ◌-◌, ◌*◌, Bool, not, ◌&&◌, ◌||◌, ◌==◌, nat_eq, nat_le, List, length, slice_index, filter, fold, codes}
use Rattle.std.specs.Char.{is_ascii_digit}
use Rattle.std.specs.Int.{is_in_range}
use Rattle.std.specs.List.{slice_split, list_all, starts_with}

-- a space or a tab
abbrev pub is_blank : ℕ → Bool
is_blank byte = (byte == 32) || (byte == 9)

abbrev pub is_word : List ℕ → Bool
is_word part = not (length part == 0)

-- what stands between the blanks of a line
abbrev pub words : List ℕ → List (List ℕ)
words line = filter is_word (slice_split is_blank line)

-- whether a comment begins with this word
abbrev pub is_comment : List ℕ → Bool
is_comment word = starts_with nat_eq word (codes "#")

-- `_` or a letter of ASCII
abbrev pub is_letter : ℕ → Bool
is_letter byte = (byte == 95) || is_in_range 65 90 byte || is_in_range 97 122 byte

abbrev pub is_name_byte : ℕ → Bool
is_name_byte byte = is_letter byte || is_ascii_digit byte

-- a letter, and then letters and digits, in all at most 32 bytes
abbrev pub is_name : List ℕ → Bool
is_name word = is_word word && is_letter (slice_index word 0) && nat_le (length word) 32 && list_all is_name_byte word

-- what decimal digits say
abbrev pub value_of : List ℕ → ℕ
value_of digits = fold (λ value digit. value * 10 + (digit - 48)) 0 digits
