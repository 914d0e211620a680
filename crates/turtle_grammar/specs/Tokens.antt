-- How a text falls into tokens, and where it doesn't.
use Rattle.std.specs.Prelude.{◌≡◌, ◌⊎◌, ◌≤◌, ◌<◌, ◌+◌, ℕ, suc, nat_eq, Option, Some, None, MatchOption, if◌then◌else◌, List, [], ◌∷◌, ◌++◌, length, take, drop, codes, encode_utf8_all, IsUtf8}
use Rattle.std.specs.List.{starts_with}
use Rattle.std.specs.Str.{chars}
use Rattle.turtle_grammar.specs.Pattern.{Pattern, Matches}
use Rattle.turtle_grammar.specs.Terminals.{pattern, gap}
use Rattle.turtle_grammar.specs.declared.token.TokenKind.{TokenKind}
use Rattle.turtle_grammar.specs.declared.token.TokenKind.TheVariants.{Iri, String, SingleString, LongSingleString, LongString}
use Rattle.turtle_grammar.specs.declared.token.Token.{Token}

-- the first n characters are the longest front of the pattern
abbrev pub IsLongest : Pattern → List ℕ → ℕ → Type 0
IsLongest p text n = (n ≤ length text) × Matches p (take n text) × ((m : ℕ) → m ≤ length text → Matches p (take m text) → m ≤ n)

-- no front is of the pattern
abbrev pub HasNone : Pattern → List ℕ → Type 0
HasNone p text = (m : ℕ) → m ≤ length text → Matches p (take m text) → ⊥

-- a text of the pattern begins so
abbrev pub Begins : Pattern → List ℕ → Type 0
Begins p text = (more : List ℕ) × Matches p (text ++ more)

-- what a text begins with: so many characters of a token, or a quote or IRI that the text's end cuts off,
-- or a character that can't stand there, at this index
pub data Found : Type 0 where
  token : TokenKind → ℕ → Found
  unclosed : Found
  bad : ℕ → Found

-- What a quote or `<` opens. Three like quotes always open a long string.
abbrev pub opened : List ℕ → Option TokenKind
opened text =
    if starts_with nat_eq text (codes "<") then Some Iri
    else if starts_with nat_eq text (codes "\"\"\"") then Some LongString
    else if starts_with nat_eq text (codes "'''") then Some LongSingleString
    else if starts_with nat_eq text (codes "\"") then Some String
    else if starts_with nat_eq text (codes "'") then Some SingleString
    else None

-- An opened token is closed, or the text's end comes before a character that can't stand in it, or such a character comes.
abbrev pub FindsOpened : TokenKind → List ℕ → Found → Type 0
FindsOpened kind text (token k n) = (k ≡ kind) × IsLongest (pattern kind) text n
FindsOpened kind text unclosed = HasNone (pattern kind) text × Begins (pattern kind) text
FindsOpened kind text (bad i) =
    HasNone (pattern kind) text × (i < length text) × Begins (pattern kind) (take i text) × (Begins (pattern kind) (take (suc i) text) → ⊥)

-- Else the longest of all tokens counts, and it is the only one so long. Where none begins the first character can't stand there.
abbrev pub FindsPlain : List ℕ → Found → Type 0
FindsPlain text (token kind n) =
    (n ≤ length text) × Matches (pattern kind) (take n text) × ((k : TokenKind) (m : ℕ) → m ≤ length text → Matches (pattern k) (take m text) → (m < n) ⊎ ((m ≡ n) × (k ≡ kind)))
FindsPlain text unclosed = ⊥
FindsPlain text (bad i) = (i ≡ 0) × ((k : TokenKind) → HasNone (pattern k) text)

abbrev pub Finds : List ℕ → Found → Type 0
Finds text found = MatchOption (opened text) (FindsPlain text found) (λ kind. FindsOpened kind text found)

-- how many bytes the characters take in UTF-8
abbrev pub bytes_of : List ℕ → ℕ
bytes_of text = length (encode_utf8_all text)

-- What comes next in a text, with places in bytes.
pub data Answer : Type 0 where
  next : Token → Answer
  end : Answer
  is_unclosed : ℕ → Answer
  is_bad : ℕ → Answer

-- what is found after a gap, in places
abbrev pub IsAnswer : List ℕ → ℕ → Answer → Type 0
IsAnswer text at (next t) = (n : ℕ) × Finds text (token t.kind n) × (t.at ≡ at) × (t.upto ≡ at + bytes_of (take n text))
IsAnswer text at end = text ≡ []
IsAnswer text at (is_unclosed place) = Finds text unclosed × (place ≡ at)
IsAnswer text at (is_bad place) = (i : ℕ) × Finds text (bad i) × (i < length text) × (place ≡ at + bytes_of (take i text))

-- What comes next in the characters that stand from the byte `at` on, after the longest gap.
abbrev pub IsNext : List ℕ → ℕ → Answer → Type 0
IsNext text at answer = (n : ℕ) × IsLongest gap text n × IsAnswer (drop n text) (at + bytes_of (take n text)) answer

-- no token follows
abbrev pub IsLast : Answer → Type 0
IsLast (next t) = ⊥
IsLast end = Unit {0}
IsLast (is_unclosed place) = Unit {0}
IsLast (is_bad place) = Unit {0}

-- The tokens of a text whose characters stand from the byte `at` on, and the answer after them, which is no token.
abbrev pub Lexes : List ℕ → ℕ → List Token → Answer → Type 0
Lexes bytes at [] last = IsNext (chars (drop at bytes)) at last × IsLast last
Lexes bytes at (t ∷ tokens) last = IsNext (chars (drop at bytes)) at (next t) × Lexes bytes t.upto tokens last

-- The first tokens of a text whose characters stand from the byte `at` on, of which the last ends before `upto`.
abbrev pub BeginsWithTokens : List ℕ → ℕ → List Token → ℕ → Type 0
BeginsWithTokens bytes at [] upto = upto ≡ at
BeginsWithTokens bytes at (t ∷ tokens) upto = IsNext (chars (drop at bytes)) at (next t) × BeginsWithTokens bytes t.upto tokens upto

-- where a document's text begins: a byte order mark before it counts as white space
abbrev pub start_of : List ℕ → ℕ
start_of bytes = if starts_with nat_eq (chars bytes) (0xFEFF ∷ []) then 3 else 0

-- No place of a text has two answers.
abbrev pub HasOneAnswer : Type 0
HasOneAnswer = (text : List ℕ) (at : ℕ) (a b : Answer) → IsNext text at a → IsNext text at b → a ≡ b

-- No text falls into tokens in two ways.
abbrev pub HasOneReading : Type 0
HasOneReading = (bytes : List ℕ) (at : ℕ) (s t : List Token) (a b : Answer) → Lexes bytes at s a → Lexes bytes at t b → (s ≡ t) × (a ≡ b)

-- Each place of a text has an answer.
abbrev pub HasAnswers : Type 0
HasAnswers = (text : List ℕ) (at : ℕ) → (a : Answer) × IsNext text at a

-- Each text in UTF-8 falls into tokens, up to its end or a fault.
abbrev pub HasReadings : Type 0
HasReadings = (bytes : List ℕ) (at : ℕ) → at ≤ length bytes → IsUtf8 (drop at bytes) → (tokens : List Token) × (last : Answer) × Lexes bytes at tokens last
