-- Places in a text, and the characters from a place on.
use Rattle.std.specs.Prelude.{◌≡◌, ◌≤◌, ◌<◌, ℕ, List, [], ◌∷◌, length, drop, Option, Some, None, IsUtf8}
use Rattle.std.specs.Str.{chars}

-- A place of a text: a character begins there, or the text ends.
pub record IsPlace (text : List ℕ) (at : ℕ) : Type 0 where
  pub inside : at ≤ length text
  pub utf8 : IsUtf8 (drop at text)

-- the characters from a place on
abbrev pub chars_from : List ℕ → ℕ → List ℕ
chars_from text at = chars (drop at text)

-- The character c stands at a place, and `upto` is the place after it.
pub record Reads (text : List ℕ) (at c upto : ℕ) : Type 0 where
  pub reads : chars_from text at ≡ c ∷ chars_from text upto
  pub further : at < upto
  pub place : IsPlace text upto

-- the character at a place, and the place after it, or the end
abbrev pub ReadsChar : List ℕ → ℕ → Option (ℕ × ℕ) → Type 0
ReadsChar text at None = chars_from text at ≡ []
ReadsChar text at (Some (c, upto)) = Reads text at c upto
