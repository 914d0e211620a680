-- The classes of characters in the terminals of W3C Turtle 1.1. A character is its number.
use Rattle.std.specs.Prelude.{ℕ, Bool, ◌==◌, ◌&&◌, ◌||◌, nat_le, List, [], ◌∷◌, codes}
use Rattle.std.specs.List.{list_any}

-- from the first to the last
abbrev pub within : ℕ → ℕ → ℕ → Bool
within first last c = nat_le first c && nat_le c last

-- one of these
abbrev pub among : List ℕ → ℕ → Bool
among cs c = list_any (λ d. c == d) cs

-- WS [161s]
unfoldable pub is_white : ℕ → Bool
is_white = among (32 ∷ 9 ∷ 13 ∷ 10 ∷ [])

-- a line's end: line feed or carriage return
unfoldable pub is_line_end : ℕ → Bool
is_line_end = among (10 ∷ 13 ∷ [])

unfoldable pub is_digit : ℕ → Bool
is_digit = within 48 57

unfoldable pub is_letter : ℕ → Bool
is_letter c = within 65 90 c || within 97 122 c

unfoldable pub is_letter_or_digit : ℕ → Bool
is_letter_or_digit c = is_letter c || is_digit c

-- HEX [171s]
unfoldable pub is_hex : ℕ → Bool
is_hex c = is_digit c || (within 65 70 c || within 97 102 c)

unfoldable pub is_sign : ℕ → Bool
is_sign = among (codes "+-")

-- the letter of an exponent
unfoldable pub is_exponent : ℕ → Bool
is_exponent = among (codes "eE")

-- what doesn't stand for itself in IRIREF [18]
unfoldable pub is_excluded : ℕ → Bool
is_excluded c = nat_le c 32 || among (codes "<>\"{}|^`\\") c

-- the letter of ECHAR [159s]
unfoldable pub is_escape : ℕ → Bool
is_escape = among (codes "tbnrf\"'\\")

-- PN_CHARS_BASE [163s]
unfoldable pub is_name_base : ℕ → Bool
is_name_base c =
    is_letter c
    || within 0xC0 0xD6 c
    || within 0xD8 0xF6 c
    || within 0xF8 0x2FF c
    || within 0x370 0x37D c
    || within 0x37F 0x1FFF c
    || within 0x200C 0x200D c
    || within 0x2070 0x218F c
    || within 0x2C00 0x2FEF c
    || within 0x3001 0xD7FF c
    || within 0xF900 0xFDCF c
    || within 0xFDF0 0xFFFD c
    || within 0x10000 0xEFFFF c

-- PN_CHARS_U [164s]
unfoldable pub is_name_start : ℕ → Bool
is_name_start c = is_name_base c || c == 95

-- PN_CHARS [166s]
unfoldable pub is_name_char : ℕ → Bool
is_name_char c = is_name_start c || c == 45 || is_digit c || c == 0xB7 || within 0x300 0x36F c || within 0x203F 0x2040 c

-- PN_LOCAL_ESC [172s], after its backslash
unfoldable pub is_local_escape : ℕ → Bool
is_local_escape = among (codes "_~.-!$&'()*+,;=/?#@%")
