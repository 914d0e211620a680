-- What the reader's answers say of bytes.
use Rattle.std.specs.Prelude.{◌≡◌, ℕ, ◌+◌, ◌-◌, List, length, Result, Ok, Err}
use Rattle.triple_store.specs.declared.term.Triple.{Triple}
use Rattle.turtle_document.specs.Answer.{Outcome, IsReadAs}
use Rattle.turtle_document.specs.Answer.Outcome.{document, not_utf8, unclosed, bad_byte, syntax, fault}
use Rattle.turtle_document.specs.Meaning.{State}
use Rattle.turtle_document.specs.Meaning.Fault.{no_prefix, bad_iri, too_deep, full_store}
use Rattle.turtle_lex.specs.declared.fault.LexFault.TheVariants as lex
use Rattle.turtle_read.specs.declared.fault.TurtleFault.{TurtleFault}
use Rattle.turtle_read.specs.declared.fault.TurtleFault.TheVariants.{Lex, Syntax, NoPrefix, BadIri, Depth, StoreFull, NoMemory}

-- The bytes have the outcome that a fault tells. Want of memory tells none.
abbrev pub Tells : (Outcome → Type 0) → TurtleFault → Type 0
Tells Has (Lex (lex.NotUtf8 at)) = Has (not_utf8 at)
Tells Has (Lex (lex.Unclosed at)) = Has (unclosed at)
Tells Has (Lex (lex.BadByte at)) = Has (bad_byte at)
Tells Has (Syntax at) = Has (syntax at)
Tells Has (NoPrefix at) = Has (fault (no_prefix at))
Tells Has (BadIri at) = Has (fault (bad_iri at))
Tells Has (Depth at) = Has (fault (too_deep at))
Tells Has (StoreFull at) = Has (fault (full_store at))
Tells Has NoMemory = Unit {0}

-- The rows of a document, and how many they are beyond those that were there. After a fault they are those that were there.
abbrev pub ReadsDocument : State → List ℕ → Result ℕ TurtleFault → List Triple → Type 0
ReadsDocument start bytes (Ok count) rows = IsReadAs start bytes (document rows) × (length rows ≡ length start.rows + count)
ReadsDocument start bytes (Err why) rows = Tells (IsReadAs start bytes) why × (rows ≡ start.rows)

-- the answer that tells an outcome, where some rows were there
abbrev pub answer_of : List Triple → Outcome → Result ℕ TurtleFault
answer_of old (document rows) = Ok (length rows - length old)
answer_of old (not_utf8 at) = Err (Lex (lex.NotUtf8 at))
answer_of old (unclosed at) = Err (Lex (lex.Unclosed at))
answer_of old (bad_byte at) = Err (Lex (lex.BadByte at))
answer_of old (syntax at) = Err (Syntax at)
answer_of old (fault (no_prefix at)) = Err (NoPrefix at)
answer_of old (fault (bad_iri at)) = Err (BadIri at)
answer_of old (fault (too_deep at)) = Err (Depth at)
answer_of old (fault (full_store at)) = Err (StoreFull at)
