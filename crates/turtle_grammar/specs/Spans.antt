-- Where the tokens of a text lie.
use Rattle.std.specs.Prelude.{ℕ, ◌<◌, ◌≤◌, List, length, drop, IsUtf8}
use Rattle.std.specs.Str.{chars}
use Rattle.turtle_grammar.specs.Tokens.{IsNext}
use Rattle.turtle_grammar.specs.Tokens.Answer.{next}
use Rattle.turtle_grammar.specs.declared.token.Token.{Token}

-- A token that is looked for from a place on lies there or after it. It has a byte at least and ends within the text, and both its
-- ends stand between characters.
pub record LiesFrom (bytes : List ℕ) (place : ℕ) (t : Token) : Type 0 where
  pub from : place ≤ t.at
  pub some : t.at < t.upto
  pub within : t.upto ≤ length bytes
  pub begins : IsUtf8 (drop t.at bytes)
  pub ends : IsUtf8 (drop t.upto bytes)

-- The spans of a text's tokens rise.
abbrev pub HasRisingSpans : Type 0
HasRisingSpans =
    (bytes : List ℕ) (place : ℕ) (t : Token) → place ≤ length bytes → IsUtf8 (drop place bytes) → IsNext (chars (drop place bytes)) place (next t) → LiesFrom bytes place t
