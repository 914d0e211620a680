-- A text whose escapes are read one character at a time.
use Rattle.std.specs.Prelude.{◌≡◌, ℕ, nat_lt, Option, None, Some, ◌+◌, ◌*◌, ◌<◌, ◌≤◌, ◌^◌, List, ◌∷◌, ◌++◌, take, drop, fold, if◌then◌else◌}
use Rattle.std.specs.Char.{digit_value, encode_utf8}
use Rattle.turtle_grammar.specs.Value.{unescaped, character, escape_value, escape_len}
use Rattle.turtle_value.specs.declared.unescape.Escape.{Escape}
use Rattle.turtle_value.specs.declared.unescape.Escape.TheVariants as escape

-- the value of a hexadecimal digit
abbrev pub digit_of : ℕ → ℕ
digit_of c = if nat_lt (digit_value c) 16 then digit_value c else 0

-- one more digit of a number
abbrev pub with_digit : ℕ → ℕ → ℕ
with_digit n c = 16 * n + digit_of c

-- what the characters that are left stand for, where so much of an escape has been read
abbrev pub left_of : Escape → List ℕ → List ℕ
left_of escape.None rest = unescaped rest
left_of escape.Backslash rest = escape_value rest ∷ unescaped (drop (escape_len rest) rest)
left_of (escape.Number left number) rest = character (fold with_digit number (take left rest)) ∷ unescaped (drop left rest)

-- at least one digit of at most eight is left, and the number has no more than those before it
pub record IsNumber (left number : ℕ) : Type 0 where
  pub some : 1 ≤ left
  pub few : left ≤ 8
  pub small : number * 16 ^ left < 16 ^ 8

abbrev pub IsBegun : Escape → Type 0
IsBegun (escape.Number left number) = IsNumber left number
IsBegun _ = Unit {0}

-- a text ends with this character
abbrev pub EndsWith : ℕ → List ℕ → Type 0
EndsWith c text = (front : List ℕ) × (text ≡ front ++ encode_utf8 c)

-- a character before others, where there is one
abbrev pub with : Option ℕ → List ℕ → List ℕ
with None rest = rest
with (Some c) rest = c ∷ rest

-- A character of a text leads on to this escape, and the text so far ends with this character, if one is whole.
pub record Steps (before : Escape) (c : ℕ) (made : Option ℕ) (after : Escape) : Type 0 where
  pub begun : IsBegun after
  pub left : (rest : List ℕ) → left_of before (c ∷ rest) ≡ with made (left_of after rest)
