-- Texts that are written token by token, with white space after each.
use Rattle.std.specs.Prelude.{◌≡◌, ℕ, ◌+◌, Bool, true, false, not, ◌==◌, ◌||◌, List, [], ◌∷◌, ◌++◌, length, IsUtf8}
use Rattle.std.specs.List.{list_all, list_any, AllByRecursion}
use Rattle.std.specs.Str.{chars}
use Rattle.turtle_grammar.specs.Characters.{among, is_white, is_excluded}
use Rattle.turtle_grammar.specs.Tokens.{Finds, Lexes}
use Rattle.turtle_grammar.specs.Tokens.Answer.{end}
use Rattle.turtle_grammar.specs.Tokens.Found.{token}
use Rattle.turtle_grammar.specs.declared.token.TokenKind.{TokenKind}
use Rattle.turtle_grammar.specs.declared.token.TokenKind.TheVariants.{Iri, String}
use Rattle.turtle_grammar.specs.declared.token.Token.{Token}

-- a token that is written, and the white space before it
pub record Word : Type 0 where
  pub space : List ℕ
  pub kind : TokenKind
  pub text : List ℕ

-- the bytes of some words, and what is written after them
abbrev pub written : List Word → List ℕ → List ℕ
written [] more = more
written (word ∷ words) more = word.space ++ (word.text ++ written words more)

-- their tokens, where the first word's white space stands at a place
abbrev pub tokens_from : ℕ → List Word → List Token
tokens_from at [] = []
tokens_from at (word ∷ words) =
    record { kind = word.kind; at = at + length word.space; upto = (at + length word.space) + length word.text }
    ∷ tokens_from ((at + length word.space) + length word.text) words

-- only white space: WS [161s] of W3C Turtle 1.1
abbrev pub are_white : List ℕ → Bool
are_white text = list_all is_white text

-- a text begins with white space
abbrev pub begins_white : List ℕ → Bool
begins_white [] = false
begins_white (c ∷ rest) = is_white c

-- a text begins neither with white space nor with a comment
abbrev pub begins_token : List ℕ → Bool
begins_token [] = false
begins_token (c ∷ rest) = not (is_white c || c == 35)

-- wherever white space follows this text, it is a token of the kind
pub record IsToken (kind : TokenKind) (text : List ℕ) : Type 0 where
  pub utf8 : IsUtf8 text
  pub begins : begins_token (chars text) ≡ true
  pub found : (rest : List ℕ) → begins_white rest ≡ true → Finds (chars text ++ rest) (token kind (length (chars text)))

-- a word is a token after white space
pub record IsWord (word : Word) : Type 0 where
  pub white : are_white word.space ≡ true
  pub is_token : IsToken word.kind word.text

-- white space stands after each word: before each but the first, and after the last
abbrev pub AreSpaced : List Word → List ℕ → Type 0
AreSpaced [] more = are_white more ≡ true
AreSpaced (word ∷ words) more = (begins_white (written words more) ≡ true) × AreSpaced words more

-- A text that is written word by word, with white space after each, falls into the tokens of its words.
abbrev pub FallsIntoWords : Type 0
FallsIntoWords = (before : List ℕ) (words : List Word) (more : List ℕ) → AllByRecursion IsWord words → AreSpaced words more
    → Lexes (before ++ written words more) (length before) (tokens_from (length before) words) end

-- what ends a string between two quotes, or stands for something else in it: STRING_LITERAL_QUOTE [22]
abbrev pub ends_string : ℕ → Bool
ends_string = among (34 ∷ 92 ∷ 10 ∷ 13 ∷ [])

-- A text that has nothing that IRIREF [18] excludes is one token between angle brackets.
abbrev pub IrisAreTokens : Type 0
IrisAreTokens = (text : List ℕ) → IsUtf8 text → list_any is_excluded text ≡ false → IsToken Iri (60 ∷ (text ++ 62 ∷ []))

-- A text without a quote, a backslash and a line's end is one token between quotes.
abbrev pub StringsAreTokens : Type 0
StringsAreTokens = (text : List ℕ) → IsUtf8 text → list_any ends_string text ≡ false → IsToken String (34 ∷ (text ++ 34 ∷ []))
