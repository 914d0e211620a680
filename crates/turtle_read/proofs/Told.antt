-- What a document's answer is, where the bytes have an outcome.
use Rattle.std.proofs.Common.{◌≡◌, ◌⊎◌, inl, inr, ℕ, ◌+◌, ◌-◌, ◌≤◌, List, length, Result, Ok, Err, refl, ap, sym, subst, ◌∙◌, arith}
use Rattle.std.proofs.lemmas.List.{length-append}
use Rattle.triple_store.specs.declared.fault.TheConstants.{MOST_ROWS}
use Rattle.triple_store.specs.declared.term.Triple.{Triple}
use Rattle.turtle_lex.specs.declared.fault.LexFault.TheVariants as lex
use Rattle.turtle_document.specs.Answer.{Outcome, IsReadAs}
use Rattle.turtle_document.specs.Answer.Outcome.{document, not_utf8, unclosed, bad_byte, syntax, fault}
use Rattle.turtle_document.specs.Meaning.{State, beginning}
use Rattle.turtle_document.specs.Numbers.{HaveFewNumbers}
use Rattle.turtle_document.specs.Meaning.Fault.{no_prefix, bad_iri, too_deep, full_store}
use Rattle.turtle_document.proofs.FewNumbers.{keeps_few_numbers}
use Rattle.turtle_document.proofs.OneOutcome.{one_outcome}
use Rattle.turtle_document.proofs.Rows.{keeps_rows}
use Rattle.turtle_read.specs.declared.fault.TurtleFault.{TurtleFault}
use Rattle.turtle_read.specs.declared.fault.TurtleFault.TheVariants.{Lex, Syntax, NoPrefix, BadIri, Depth, StoreFull, NoMemory}
use Rattle.turtle_read.specs.Answers.{Tells, ReadsDocument, answer_of}

-- one outcome, one answer
same_answer : (base : List ℕ) (old : List Triple) (bytes : List ℕ) (r : Result ℕ TurtleFault) (own o : Outcome)
    → r ≡ answer_of old own → IsReadAs (beginning base old) bytes own → IsReadAs (beginning base old) bytes o → (r ≡ answer_of old o) ⊎ (r ≡ Err NoMemory)
same_answer base old bytes r own o e h k = inl (e ∙ ap (answer_of old) (one_outcome base old bytes own o h k))

counted : (rows old count : ℕ) → rows ≡ old + count → count ≡ rows - old
counted rows old count e = omega arith

pub told : (base : List ℕ) (old : List Triple) (bytes : List ℕ) (r : Result ℕ TurtleFault) (rows : List Triple)
    → ReadsDocument (beginning base old) bytes r rows → (o : Outcome) → IsReadAs (beginning base old) bytes o → (r ≡ answer_of old o) ⊎ (r ≡ Err NoMemory)
told base old bytes (Ok count) rows h o k =
    same_answer base old bytes (Ok count) (document rows) o (ap Ok (counted (length rows) (length old) count h.1)) h.0 k
told base old bytes (Err (Lex (lex.NotUtf8 at))) rows h o k = same_answer base old bytes (Err (Lex (lex.NotUtf8 at))) (not_utf8 at) o refl h.0 k
told base old bytes (Err (Lex (lex.Unclosed at))) rows h o k = same_answer base old bytes (Err (Lex (lex.Unclosed at))) (unclosed at) o refl h.0 k
told base old bytes (Err (Lex (lex.BadByte at))) rows h o k = same_answer base old bytes (Err (Lex (lex.BadByte at))) (bad_byte at) o refl h.0 k
told base old bytes (Err (Syntax at)) rows h o k = same_answer base old bytes (Err (Syntax at)) (syntax at) o refl h.0 k
told base old bytes (Err (NoPrefix at)) rows h o k = same_answer base old bytes (Err (NoPrefix at)) (fault (no_prefix at)) o refl h.0 k
told base old bytes (Err (BadIri at)) rows h o k = same_answer base old bytes (Err (BadIri at)) (fault (bad_iri at)) o refl h.0 k
told base old bytes (Err (Depth at)) rows h o k = same_answer base old bytes (Err (Depth at)) (fault (too_deep at)) o refl h.0 k
told base old bytes (Err (StoreFull at)) rows h o k = same_answer base old bytes (Err (StoreFull at)) (fault (full_store at)) o refl h.0 k
told base old bytes (Err NoMemory) rows h o k = inr refl

-- where blank numbers were few they are so afterwards
pub few_left : (base : List ℕ) (old : List Triple) (bytes : List ℕ) (r : Result ℕ TurtleFault) (rows : List Triple)
    → ReadsDocument (beginning base old) bytes r rows → HaveFewNumbers old → HaveFewNumbers rows
few_left base old bytes (Ok count) rows h few = keeps_few_numbers base old bytes rows h.0 few
few_left base old bytes (Err why) rows h few = let P : List Triple → Type 0 = λ l. HaveFewNumbers l in subst P (sym h.1) few

-- a document's rows are no fewer than those that were there
pub no_fewer : (base : List ℕ) (old : List Triple) (bytes : List ℕ) (rows : List Triple)
    → IsReadAs (beginning base old) bytes (document rows) → length old ≤ MOST_ROWS → length old ≤ length rows
no_fewer base old bytes rows h few =
    let k = (keeps_rows base old bytes rows h few).0 in
    let n : length rows ≡ length old + length k.0 = ap length k.1 ∙ length-append old k.0 in omega arith

-- where a document begins, by its parts
pub begins_at : (base : List ℕ) (old : List Triple) (b : List ℕ) (rows : List Triple) (st : State)
    → st ≡ beginning b rows → b ≡ base → rows ≡ old → st ≡ beginning base old
begins_at base old b rows st e same_base same_rows =
    e ∙ ap (λ (x : List ℕ). beginning x rows) same_base ∙ ap (λ (x : List Triple). beginning base x) same_rows

-- what was read, by its parts
pub is_read : (base : List ℕ) (old : List Triple) (text : List ℕ) (st : State) (rows last : List Triple)
    → st ≡ beginning base old → rows ≡ last → IsReadAs st text (document last) → IsReadAs (beginning base old) text (document rows)
is_read base old text st rows last begun same h =
    let P : State → Type 0 = λ s. IsReadAs s text (document rows) in
    let Q : List Triple → Type 0 = λ r. IsReadAs st text (document r) in subst P begun (subst Q (sym same) h)

pub is_told : (base : List ℕ) (old : List Triple) (text : List ℕ) (st : State) (why : TurtleFault)
    → st ≡ beginning base old → Tells (IsReadAs st text) why → Tells (IsReadAs (beginning base old) text) why
is_told base old text st why begun h = let P : State → Type 0 = λ s. Tells (IsReadAs s text) why in subst P begun h
