-- What an IRI may not hold between its angle brackets: IRIREF of Turtle 1.1, section 6.5.
use Rattle.std.specs.Prelude.{◌≡◌, ℕ, ◌<◌, List, length, min}
use Rattle.std.specs.List.{position_or_len}
use Rattle.std.specs.Str.Lossy.{utf8_valid_len}
-- the characters that the grammar of Turtle excludes
pub use Rattle.turtle_grammar.specs.Characters.{is_excluded}

-- the first place of an excluded character, or where the bytes aren't UTF-8 from there on, whichever is less; else the length
abbrev pub first_bad : List ℕ → ℕ
first_bad text = min (position_or_len is_excluded text) (utf8_valid_len text)

-- the text is bad, and first at this place
abbrev pub IsFirstBad : List ℕ → ℕ → Type 0
IsFirstBad text at = (first_bad text < length text) × (at ≡ first_bad text)
