-- The numbers of blank nodes that a document gives: each stands in one of its triples, and a triple has room for two of them.
use Rattle.std.specs.Prelude.{◌≡◌, ◌⊎◌, ℕ, ◌*◌, ◌≤◌, ◌<◌, List, length, Contains}
use Rattle.triple_store.specs.Triples.{blanks_of}
use Rattle.triple_store.specs.declared.term.Term.TheVariants.{Blank}
use Rattle.triple_store.specs.declared.term.Triple.{Triple}
use Rattle.turtle_grammar.specs.Tree.{Lexeme}
use Rattle.turtle_document.specs.Answer.{Means, IsReadAs}
use Rattle.turtle_document.specs.Answer.Outcome.{document}
use Rattle.turtle_document.specs.Meaning.{State, beginning}

-- blank numbers are at most twice the rows
abbrev pub HaveFewNumbers : List Triple → Type 0
HaveFewNumbers rows = blanks_of rows ≤ 2 * length rows

-- the blank node of a number is the subject or the object of a triple
abbrev pub StandsIn : ℕ → Triple → Type 0
StandsIn number t = (t.s ≡ Blank number) ⊎ (t.o ≡ Blank number)

-- Each number that a document gives stands in a triple that is new.
abbrev pub UsesItsNumbers : Type 0
UsesItsNumbers = (base : List ℕ) (old : List Triple) (tokens : List Lexeme) (after : State) → Means (beginning base old) tokens after
    → (number : ℕ) → blanks_of old ≤ number → number < after.blanks
    → (t : Triple) × Contains after.rows t × (Contains old t → ⊥) × StandsIn number t

-- Where blank numbers were at most twice the rows, they are so after a document.
abbrev pub KeepsFewNumbers : Type 0
KeepsFewNumbers = (base : List ℕ) (old : List Triple) (bytes : List ℕ) (rows : List Triple)
    → IsReadAs (beginning base old) bytes (document rows) → HaveFewNumbers old → HaveFewNumbers rows
