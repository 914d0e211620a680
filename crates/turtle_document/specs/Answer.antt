-- Which bytes are a document, which triples it has, and where and why other bytes are none.
--
-- Tokens are judged one after another. Some first tokens are open: whatever place one names, a document begins with them that has no
-- fault before it. At the first token with which they are open no more, either no document begins so, or each that does has the same fault.
use Rattle.std.specs.Prelude.{◌≡◌, ◌⊎◌, ℕ, ◌-◌, ◌≤◌, List, [], ◌∷◌, ◌++◌, map, length, take, drop, Result, Ok, Err, IsUtf8}
use Rattle.std.specs.Str.Lossy.{utf8_valid_len}
use Rattle.triple_store.specs.declared.fault.TheConstants.{MOST_ROWS}
use Rattle.triple_store.specs.declared.term.Triple.{Triple}
use Rattle.turtle_grammar.specs.Tokens.{Answer, Lexes, BeginsWithTokens, start_of}
use Rattle.turtle_grammar.specs.Tokens.Answer.{end, is_unclosed, is_bad}
use Rattle.turtle_grammar.specs.Tree.{Lexeme, Document, document_tokens}
use Rattle.turtle_grammar.specs.declared.token.Token.{Token}
use Rattle.turtle_document.specs.Meaning.{Fault, State, document_of, beginning}
use Rattle.turtle_document.specs.Meaning.Fault.{no_prefix, bad_iri, too_deep, full_store}

-- a token with its text
abbrev pub lexeme_of : List ℕ → Token → Lexeme
lexeme_of bytes t = record { kind = t.kind; at = t.at; text = take (t.upto - t.at) (drop t.at bytes) }

abbrev pub lexemes_of : List ℕ → List Token → List Lexeme
lexemes_of bytes tokens = map (lexeme_of bytes) tokens

abbrev pub fault_at : Fault → ℕ
fault_at (no_prefix at) = at
fault_at (bad_iri at) = at
fault_at (too_deep at) = at
fault_at (full_store at) = at

-- no fault stands before a place
abbrev pub IsClearTo : ℕ → Result State Fault → Type 0
IsClearTo n (Ok st) = Unit {0}
IsClearTo n (Err fault) = n ≤ fault_at fault

-- some document begins with these tokens
abbrev pub BeginsDocument : List Lexeme → Type 0
BeginsDocument front = (d : Document) × (more : List Lexeme) × (document_tokens d ≡ front ++ more)

-- for each place some document begins so and has no fault before it
abbrev pub IsOpen : State → List Lexeme → Type 0
IsOpen start front = (n : ℕ) → (d : Document) × (more : List Lexeme) × (document_tokens d ≡ front ++ more) × IsClearTo n (document_of d start)

-- some document has these tokens and no more, and leaves this behind
abbrev pub Means : State → List Lexeme → State → Type 0
Means start tokens after = (d : Document) × (document_tokens d ≡ tokens) × (document_of d start ≡ Ok after)

-- no document has these tokens and no more
abbrev pub IsUnfinished : List Lexeme → Type 0
IsUnfinished tokens = (d : Document) → document_tokens d ≡ tokens → ⊥

-- each document that begins so has this fault, and there is one
abbrev pub Faults : State → List Lexeme → Fault → Type 0
Faults start front fault =
    BeginsDocument front × ((d : Document) (more : List Lexeme) → document_tokens d ≡ front ++ more → document_of d start ≡ Err fault)

-- the whole text falls into these tokens, and this comes after them
abbrev pub HasTokens : List ℕ → List Token → Answer → Type 0
HasTokens bytes tokens last = IsUtf8 bytes × Lexes bytes (start_of bytes) tokens last

-- the text's first tokens are these
abbrev pub HasFront : List ℕ → List Token → Type 0
HasFront bytes tokens = IsUtf8 bytes × ((upto : ℕ) × BeginsWithTokens bytes (start_of bytes) tokens upto)

-- What bytes are: a document that leaves these rows, or no document, and where and why.
pub data Outcome : Type 0 where
  document : List Triple → Outcome
  not_utf8 : ℕ → Outcome
  unclosed : ℕ → Outcome
  bad_byte : ℕ → Outcome
  syntax : ℕ → Outcome
  fault : Fault → Outcome

-- a token can't follow those before it
abbrev pub StopsAt : State → List ℕ → ℕ → Type 0
StopsAt start bytes at =
    (front : List Token) × (t : Token) × HasFront bytes (front ++ t ∷ []) × IsOpen start (lexemes_of bytes front)
    × (BeginsDocument (lexemes_of bytes (front ++ t ∷ [])) → ⊥) × (at ≡ t.at)

-- the text ends within a statement
abbrev pub EndsEarly : State → List ℕ → ℕ → Type 0
EndsEarly start bytes at =
    (tokens : List Token) × HasTokens bytes tokens end × IsOpen start (lexemes_of bytes tokens) × IsUnfinished (lexemes_of bytes tokens)
    × (at ≡ length bytes)

-- The one answer to bytes, from an environment on.
abbrev pub IsReadAs : State → List ℕ → Outcome → Type 0
IsReadAs start bytes (document rows) =
    (tokens : List Token) × HasTokens bytes tokens end × ((after : State) × Means start (lexemes_of bytes tokens) after × (rows ≡ after.rows))
IsReadAs start bytes (not_utf8 at) = (IsUtf8 bytes → ⊥) × (at ≡ utf8_valid_len bytes)
IsReadAs start bytes (unclosed at) = (tokens : List Token) × HasTokens bytes tokens (is_unclosed at) × IsOpen start (lexemes_of bytes tokens)
IsReadAs start bytes (bad_byte at) = (tokens : List Token) × HasTokens bytes tokens (is_bad at) × IsOpen start (lexemes_of bytes tokens)
IsReadAs start bytes (syntax at) = StopsAt start bytes at ⊎ EndsEarly start bytes at
IsReadAs start bytes (fault f) =
    (front : List Token) × (t : Token) × HasFront bytes (front ++ t ∷ []) × IsOpen start (lexemes_of bytes front)
    × Faults start (lexemes_of bytes (front ++ t ∷ [])) f

-- Bytes are read in one way: no two answers are theirs.
abbrev pub HasOneOutcome : Type 0
HasOneOutcome = (base : List ℕ) (rows : List Triple) (bytes : List ℕ) (a b : Outcome)
    → IsReadAs (beginning base rows) bytes a → IsReadAs (beginning base rows) bytes b → a ≡ b

-- Any bytes are read in some way.
abbrev pub HasSomeOutcome : Type 0
HasSomeOutcome = (base : List ℕ) (rows : List Triple) (bytes : List ℕ) → (o : Outcome) × IsReadAs (beginning base rows) bytes o

-- A document's triples come after the rows that were there, and they are never more than a store has room for.
abbrev pub KeepsRows : Type 0
KeepsRows = (base : List ℕ) (old : List Triple) (bytes : List ℕ) (rows : List Triple)
    → IsReadAs (beginning base old) bytes (document rows) → length old ≤ MOST_ROWS
    → ((new : List Triple) × (rows ≡ old ++ new)) × (length rows ≤ MOST_ROWS)
