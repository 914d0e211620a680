-- How a reader stands at a place of a text, and what it knows of the text where it ends.
use Rattle.std.proofs.Common.{◌≡◌, ℕ, false, List, [], ◌∷◌, ◌++◌, length, IsUtf8, refl, sym, subst, inl, inr}
use Rattle.std.proofs.lemmas.List.{map-append}
use Rattle.std.specs.Prelude.{drop}
use Rattle.std.specs.Str.{chars}
use Rattle.turtle_grammar.specs.Tokens.{Answer, IsNext, IsLast, Lexes, BeginsWithTokens, start_of}
use Rattle.turtle_grammar.specs.Tokens.Answer.{end, is_unclosed, is_bad}
use Rattle.turtle_grammar.specs.Tree.{Lexeme, Leaf}
use Rattle.turtle_grammar.specs.declared.token.Token.{Token}
use Rattle.turtle_document.specs.Meaning.{Fault, State}
use Rattle.turtle_document.specs.Answer.{lexeme_of, lexemes_of, BeginsDocument, IsOpen, Faults, HasTokens, IsReadAs}
use Rattle.turtle_document.specs.Answer.Outcome.{document, unclosed, bad_byte, syntax, fault}
use Rattle.turtle_document.specs.Machine.{Config, config, Move, move}
use Rattle.turtle_document.specs.Machine.Move.{to, stuck, fails}
use Rattle.turtle_document.specs.declared.expected.Expected.{Expected}
use Rattle.turtle_document.specs.declared.expected.Expected.TheVariants as expect
use Rattle.turtle_document.specs.declared.expected.Hole.{Hole}
use Rattle.turtle_document.proofs.Closing.{some}
use Rattle.turtle_document.proofs.Completion.{IsRight}
use Rattle.turtle_document.proofs.Formed.{IsFormed, LeadsWell, kept, formed_first}
use Rattle.turtle_document.proofs.Reached.{Reached, reached_start, reached_next, is_open, no_document, has_fault, means, is_between, unfinished}
use Rattle.turtle_document.proofs.Right.{right}
use Rattle.turtle_document.proofs.Run.{leaf_of}

-- one more token
begins_on : (bytes : List ℕ) (at : ℕ) (tokens : List Token) (upto : ℕ) (t : Token)
    → BeginsWithTokens bytes at tokens upto → IsNext (chars (drop upto bytes)) upto (Answer.next t) → BeginsWithTokens bytes at (tokens ++ t ∷ []) t.upto
begins_on bytes at [] upto t h n =
    let P : ℕ → Type 0 = λ m. IsNext (chars (drop m bytes)) m (Answer.next t) in (subst P h n, refl)
begins_on bytes at (s ∷ tokens) upto t h n = (h.0, begins_on bytes s.upto tokens upto t h.1 n)

-- no more tokens
lexes_all : (bytes : List ℕ) (at : ℕ) (tokens : List Token) (upto : ℕ) (last : Answer)
    → BeginsWithTokens bytes at tokens upto → IsNext (chars (drop upto bytes)) upto last → IsLast last → Lexes bytes at tokens last
lexes_all bytes at [] upto last h n is_last =
    let P : ℕ → Type 0 = λ m. IsNext (chars (drop m bytes)) m last in (subst P h n, is_last)
lexes_all bytes at (s ∷ tokens) upto last h n is_last = (h.0, lexes_all bytes s.upto tokens upto last h.1 n is_last)

-- A reader has taken a text's tokens up to a place, and stands so.
pub record Stands (start : State) (bytes : List ℕ) (place : ℕ) (c : Config) (st : State) : Type 0 where
  pub tokens : List Token
  pub is_text : IsUtf8 bytes
  pub front : BeginsWithTokens bytes (start_of bytes) tokens place
  pub formed : IsFormed c
  pub reached : Reached start (lexemes_of bytes tokens) c st

-- the leaf of a token of a text
abbrev pub leaf_at : List ℕ → Token → Leaf
leaf_at bytes t = leaf_of (lexeme_of bytes t)

pub stands_first : (start : State) (bytes : List ℕ) → IsUtf8 bytes → Stands start bytes (start_of bytes) (config expect.Statement []) start
stands_first start bytes text =
    record { tokens = []; is_text = text; front = refl; formed = formed_first; reached = reached_start start }

open_so_far : (start : State) (bytes : List ℕ) (place : ℕ) (c : Config) (st : State) (s : Stands start bytes place c st)
    → IsOpen start (lexemes_of bytes s.tokens)
open_so_far start bytes place c st s = is_open start (lexemes_of bytes s.tokens) c st s.reached (λ n. some n c st)

right_at : (start : State) (bytes : List ℕ) (place : ℕ) (c : Config) (st : State) (t : Token) (m : Move)
    → Stands start bytes place c st → move c t.kind (leaf_at bytes t) st ≡ m → IsRight c (lexeme_of bytes t) st m
right_at start bytes place c st t m s e =
    let P : Move → Type 0 = λ n. IsRight c (lexeme_of bytes t) st n in subst P e (right c t.kind (leaf_at bytes t) st s.formed)

lexemes_on : (bytes : List ℕ) (tokens : List Token) (t : Token)
    → lexemes_of bytes tokens ++ lexeme_of bytes t ∷ [] ≡ lexemes_of bytes (tokens ++ t ∷ [])
lexemes_on bytes tokens t = sym (map-append (lexeme_of bytes) tokens (t ∷ []))

-- A token leads on.
pub stands_next : (start : State) (bytes : List ℕ) (place : ℕ) (c : Config) (st : State) (t : Token) (d : Config) (after : State)
    → Stands start bytes place c st → IsNext (chars (drop place bytes)) place (Answer.next t)
    → move c t.kind (leaf_at bytes t) st ≡ to d after → Stands start bytes t.upto d after
stands_next start bytes place c st t d after s n e =
    let P : Move → Type 0 = λ m. LeadsWell m in
    let Q : List Lexeme → Type 0 = λ ts. Reached start ts d after in
    record {
      tokens = s.tokens ++ t ∷ [];
      is_text = s.is_text;
      front = begins_on bytes (start_of bytes) s.tokens place t s.front n;
      formed = subst P e (kept c t.kind (leaf_at bytes t) st s.formed);
      reached = subst Q (lexemes_on bytes s.tokens t)
          (reached_next start (lexemes_of bytes s.tokens) c (lexeme_of bytes t) st d after s.reached (right_at start bytes place c st t (to d after) s e));
    }

-- A token can't follow.
pub reads_stuck : (start : State) (bytes : List ℕ) (place : ℕ) (c : Config) (st : State) (t : Token)
    → Stands start bytes place c st → IsNext (chars (drop place bytes)) place (Answer.next t)
    → move c t.kind (leaf_at bytes t) st ≡ stuck → IsReadAs start bytes (syntax t.at)
reads_stuck start bytes place c st t s n e =
    let P : List Lexeme → Type 0 = λ ts. BeginsDocument ts → ⊥ in
    inl (
      s.tokens,
      t,
      (s.is_text, (t.upto, begins_on bytes (start_of bytes) s.tokens place t s.front n)),
      open_so_far start bytes place c st s,
      subst P (lexemes_on bytes s.tokens t)
          (no_document start (lexemes_of bytes s.tokens) c (lexeme_of bytes t) st s.reached (right_at start bytes place c st t stuck s e)),
      refl,
    )

-- A token has a fault.
pub reads_fault : (start : State) (bytes : List ℕ) (place : ℕ) (c : Config) (st : State) (t : Token) (f : Fault)
    → Stands start bytes place c st → IsNext (chars (drop place bytes)) place (Answer.next t)
    → move c t.kind (leaf_at bytes t) st ≡ fails f → IsReadAs start bytes (fault f)
reads_fault start bytes place c st t f s n e =
    let P : List Lexeme → Type 0 = λ ts. Faults start ts f in (
      s.tokens,
      t,
      (s.is_text, (t.upto, begins_on bytes (start_of bytes) s.tokens place t s.front n)),
      open_so_far start bytes place c st s,
      subst P (lexemes_on bytes s.tokens t)
          (has_fault start (lexemes_of bytes s.tokens) c (lexeme_of bytes t) st f s.reached (right_at start bytes place c st t (fails f) s e)),
    )

all_tokens : (start : State) (bytes : List ℕ) (place : ℕ) (c : Config) (st : State) (last : Answer) (s : Stands start bytes place c st)
    → IsNext (chars (drop place bytes)) place last → IsLast last → HasTokens bytes s.tokens last
all_tokens start bytes place c st last s n is_last = (s.is_text, lexes_all bytes (start_of bytes) s.tokens place last s.front n is_last)

pub reads_unclosed : (start : State) (bytes : List ℕ) (place : ℕ) (c : Config) (st : State) (at : ℕ)
    → Stands start bytes place c st → IsNext (chars (drop place bytes)) place (is_unclosed at) → IsReadAs start bytes (unclosed at)
reads_unclosed start bytes place c st at s n =
    (s.tokens, all_tokens start bytes place c st (is_unclosed at) s n tt, open_so_far start bytes place c st s)

pub reads_bad : (start : State) (bytes : List ℕ) (place : ℕ) (c : Config) (st : State) (at : ℕ)
    → Stands start bytes place c st → IsNext (chars (drop place bytes)) place (is_bad at) → IsReadAs start bytes (bad_byte at)
reads_bad start bytes place c st at s n =
    (s.tokens, all_tokens start bytes place c st (is_bad at) s n tt, open_so_far start bytes place c st s)

-- The text ends between two statements.
pub reads_document : (start : State) (bytes : List ℕ) (place : ℕ) (outer : List Hole) (st : State)
    → Stands start bytes place (config expect.Statement outer) st → IsNext (chars (drop place bytes)) place end
    → IsReadAs start bytes (document st.rows)
reads_document start bytes place outer st s n = (
  s.tokens,
  all_tokens start bytes place (config expect.Statement outer) st end s n tt,
  (st, means start (lexemes_of bytes s.tokens) outer st s.reached, refl),
)

-- The text ends within a statement.
pub reads_early : (start : State) (bytes : List ℕ) (place : ℕ) (expected : Expected) (outer : List Hole) (st : State)
    → Stands start bytes place (config expected outer) st → IsNext (chars (drop place bytes)) place end
    → is_between expected ≡ false → IsReadAs start bytes (syntax (length bytes))
reads_early start bytes place expected outer st s n within =
    inr (
      s.tokens,
      all_tokens start bytes place (config expected outer) st end s n tt,
      open_so_far start bytes place (config expected outer) st s,
      unfinished start (lexemes_of bytes s.tokens) expected outer st s.reached within,
      refl,
    )
