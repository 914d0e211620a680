-- How far a lexer has come, and what it finds there.
use Rattle.std.specs.Prelude.{◌≡◌, ℕ, Option, Some, None, MatchOption, Result, Ok, Err, List, IsUtf8}
use Rattle.std.specs.Str.Lossy.{utf8_valid_len}
use Rattle.turtle_grammar.specs.Tokens.{IsNext, start_of}
use Rattle.turtle_grammar.specs.Tokens.Answer.{next, end, is_unclosed, is_bad}
use Rattle.turtle_grammar.specs.declared.token.Token.{Token}
use Rattle.turtle_lex.specs.declared.fault.LexFault.{LexFault}
use Rattle.turtle_lex.specs.declared.fault.LexFault.TheVariants.{NotUtf8, Unclosed, BadByte}
use Rattle.turtle_lex.specs.declared.stop.Stop.{Stop}
use Rattle.turtle_lex.specs.declared.stop.Stop.TheVariants as stops
use Rattle.turtle_lex.specs.Places.{IsPlace, chars_from}

-- A lexer: its text, the place from which it goes on, and the fault that it has met.
pub record Reading : Type 0 where
  pub text : List ℕ
  pub at : ℕ
  pub fault : Option LexFault

-- At the beginning it stands before the text, or has met bytes that aren't UTF-8.
abbrev pub IsBegun : List ℕ → Reading → Type 0
IsBegun bytes lexer = MatchOption lexer.fault
    (IsUtf8 bytes × (lexer.text ≡ bytes) × (lexer.at ≡ start_of bytes))
    (λ fault. (¬ IsUtf8 bytes) × (fault ≡ NotUtf8 (utf8_valid_len bytes)))

-- the answer that a fault is
abbrev pub IsFault : List ℕ → ℕ → LexFault → Type 0
IsFault text at (NotUtf8 place) = ⊥
IsFault text at (Unclosed place) = IsNext (chars_from text at) at (is_unclosed place)
IsFault text at (BadByte place) = IsNext (chars_from text at) at (is_bad place)

-- the fault that a stop is, at a token that begins at a place
abbrev pub fault_at : Stop → ℕ → LexFault
fault_at stops.Unclosed at = Unclosed at
fault_at (stops.Bad place) at = BadByte place

-- a token ends at a place of the text
abbrev pub EndsAtPlace : List ℕ → Result (Option Token) LexFault → Type 0
EndsAtPlace text (Ok (Some t)) = IsPlace text t.upto
EndsAtPlace text (Ok None) = Unit {0}
EndsAtPlace text (Err fault) = Unit {0}

-- What comes next from a place of a text: a token, the end or a fault.
abbrev pub ComesNext : List ℕ → ℕ → Result (Option Token) LexFault → Type 0
ComesNext text at (Ok (Some t)) = IsNext (chars_from text at) at (next t)
ComesNext text at (Ok None) = IsNext (chars_from text at) at end
ComesNext text at (Err fault) = IsFault text at fault

-- the lexer after that answer
abbrev pub moved_on : Reading → Result (Option Token) LexFault → Reading
moved_on lexer (Ok (Some t)) = record { text = lexer.text; at = t.upto; fault = None }
moved_on lexer (Ok None) = lexer
moved_on lexer (Err fault) = record { text = lexer.text; at = lexer.at; fault = Some fault }

-- A step answers what comes next and moves on. After a fault it answers the fault again and stays.
abbrev pub Steps : Reading → Result (Option Token) LexFault → Reading → Type 0
Steps before result after = MatchOption before.fault
    (ComesNext before.text before.at result × (after ≡ moved_on before result))
    (λ fault. (result ≡ Err fault) × (after ≡ before))
