-- Tokens of a text.
use Rattle.std.specs.Prelude.{ℕ, ◌-◌, ◌≤◌, List, length, take, drop, IsUtf8}
use Rattle.std.specs.Str.{chars}
use Rattle.turtle_grammar.specs.Tokens.{IsNext}
use Rattle.turtle_grammar.specs.Tokens.Answer.{next}
use Rattle.turtle_grammar.specs.Tree.{Leaf}
use Rattle.turtle_grammar.specs.declared.token.Token.{Token}

-- A token comes next from some place of a text.
pub record IsTokenOf (text : List ℕ) (t : Token) : Type 0 where
  pub place : ℕ
  pub within : place ≤ length text
  pub utf8 : IsUtf8 (drop place text)
  pub comes : IsNext (chars (drop place text)) place (next t)

-- its place and its characters
abbrev pub leaf_in : List ℕ → Token → Leaf
leaf_in text t = record { at = t.at; text = take (t.upto - t.at) (drop t.at text) }
