-- All kinds of tokens, and those that are words.
use Rattle.std.specs.Prelude.{◌≡◌, ◌≢◌, ◌==◌, ℕ, Bool, true, false, Option, Some, None, List, [], ◌∷◌, ◌++◌}
use Rattle.std.specs.Char.{to_ascii_lowercase}
use Rattle.turtle_grammar.specs.Pattern.{Pattern, nothing, one, ◌then◌, ◌or◌, char, word}
use Rattle.turtle_grammar.specs.Characters.{is_name_start, is_digit}
use Rattle.turtle_grammar.specs.Terminals.{pattern, word_in_any_case, name_rest, digits, exponent}
use Rattle.turtle_grammar.specs.declared.token.TokenKind.{TokenKind}
use Rattle.turtle_grammar.specs.declared.token.TokenKind.TheVariants.{Iri, Namespace, PrefixedName, BlankLabel, LanguageTag, Integer, Decimal, Double, String, SingleString, LongSingleString, LongString, Dot, Comma, Semicolon, OpenSquare, CloseSquare, OpenRound, CloseRound, DoubleCaret, A, True, False, Prefix, Base}
use Rattle.turtle_lex.specs.Picks.{Candidate, all_after, alive}

abbrev pub wanting : TokenKind → Pattern → Candidate
wanting kind wanted = record { kind = kind; wanted = wanted }

abbrev pub candidate : TokenKind → Candidate
candidate kind = wanting kind (pattern kind)

-- all but the words
abbrev pub others : List Candidate
others =
    candidate Iri ∷ candidate Namespace ∷ candidate PrefixedName ∷ candidate BlankLabel ∷ candidate LanguageTag ∷ candidate Integer ∷ candidate Decimal ∷ candidate Double
    ∷ candidate String ∷ candidate SingleString ∷ candidate LongSingleString ∷ candidate LongString ∷ candidate Dot ∷ candidate Comma ∷ candidate Semicolon
    ∷ candidate OpenSquare ∷ candidate CloseSquare ∷ candidate OpenRound ∷ candidate CloseRound ∷ candidate DoubleCaret ∷ []

abbrev pub words : List Candidate
words = candidate A ∷ candidate True ∷ candidate False ∷ candidate Prefix ∷ candidate Base ∷ []

abbrev pub tokens : List Candidate
tokens = others ++ words

-- a letter of a word, maybe in any case, given in lower case
abbrev pub letter_class : Bool → ℕ → ℕ → Bool
letter_class false letter = λ c. c == letter
letter_class true letter = λ c. to_ascii_lowercase c == letter

abbrev pub letters : Bool → List ℕ → Pattern
letters false cs = word cs
letters true cs = word_in_any_case cs

-- a dot with which a number may begin
abbrev pub dot_start : List Candidate
dot_start = wanting Decimal digits ∷ wanting Double (digits then exponent) ∷ wanting Dot nothing ∷ []

-- after `_` and after `^`
abbrev pub underscore : List Candidate
underscore = wanting BlankLabel (char 58 then (one is_name_start or one is_digit) then name_rest) ∷ []

abbrev pub caret : List Candidate
caret = wanting DoubleCaret (char 94 then nothing) ∷ []

-- the mark that a character is
abbrev pub IsMark : ℕ → Option TokenKind → Type 0
IsMark c (Some kind) = alive (all_after c tokens) ≡ wanting kind nothing ∷ []
IsMark c None = (c ≢ 44) × (c ≢ 59) × (c ≢ 91) × (c ≢ 93) × (c ≢ 40) × (c ≢ 41)
