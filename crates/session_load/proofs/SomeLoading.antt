-- The files of a known vault give an answer.
use Rattle.std.proofs.Common.{◌≡◌, ◌≢◌, ℕ, ◌<◌, ◌≤◌, ◌⊎◌, List, [], ◌∷◌, length, Option, Some, None, Result, Ok, Err, IsTrue, refl, ap, ⊎_elim, arith, inl, inr}
use Rattle.std.proofs.lemmas.Bool.{cases_lt}
use Rattle.lv_outside.specs.Count.{next_count}
use Rattle.lv_outside.specs.World.{VaultState}
use Rattle.triple_store.specs.declared.term.Triple.{Triple}
use Rattle.turtle_document.specs.Answer.{Outcome}
use Rattle.turtle_document.specs.Answer.Outcome.{document, not_utf8, unclosed, bad_byte, syntax, fault}
use Rattle.turtle_document.specs.Meaning.Fault.{no_prefix, bad_iri, too_deep, full_store}
use Rattle.turtle_lex.specs.declared.fault.LexFault.TheVariants as lex
use Rattle.turtle_read.specs.Answers.{Tells}
use Rattle.turtle_read.specs.declared.fault.TurtleFault.{TurtleFault}
use Rattle.turtle_read.specs.declared.fault.TurtleFault.TheVariants as turtle
use Rattle.session_load.specs.Names.{manifest, path_of, file_iri, files_named}
use Rattle.session_load.specs.Bundle.{Place, place, Reads, Adds, AddAll, IsRefused, StopsAt, StopsBehind}
use Rattle.session_load.specs.OneAnswer.{IsOfFiles, IsLoadedAs}
use Rattle.session_load.specs.declared.bundle_files.TheConstants.{MOST_FILE_BYTES}
use Rattle.session_load.specs.declared.fault.LoadFault.{LoadFault}
use Rattle.session_load.specs.declared.fault.LoadFault.TheVariants.{Missing, TooLong, Turtle}
use Rattle.session_load.proofs.Loading.{unloaded}
use Rattle.turtle_document.proofs.Outcomes.{every_outcome}

-- a vault that counted one more absence and one more file that was too long
abbrev risen : VaultState → VaultState
risen v = record { tells = v.tells; file = v.file; faults = v.faults; absences = next_count v.absences; longs = next_count v.longs }

-- ---- one file

-- it leads to rows, or stops all
abbrev IsTaken : VaultState → Place → List ℕ → List Triple → Type 0
IsTaken v at name before =
    ((rows : List Triple) × Adds v at name before rows) ⊎ ((why : LoadFault) × IsOfFiles why × IsRefused v (risen v) at name before why)

misread : (v : VaultState) (at : Place) (name : List ℕ) (before : List Triple) (bytes : List ℕ) (cause : TurtleFault)
    → v.file (path_of at.path name) ≡ Some bytes → length bytes ≤ MOST_FILE_BYTES → cause ≢ turtle.NoMemory
    → Tells (Reads at name before bytes) cause → IsTaken v at name before
misread v at name before bytes cause here few some tells =
    inr (Turtle (path_of at.path name) cause, tt, (bytes, record { short = few; found = λ t. here }, (refl, some, tells)))

by_outcome : (v : VaultState) (at : Place) (name : List ℕ) (before : List Triple) (bytes : List ℕ) (o : Outcome)
    → v.file (path_of at.path name) ≡ Some bytes → length bytes ≤ MOST_FILE_BYTES → Reads at name before bytes o → IsTaken v at name before
by_outcome v at name before bytes (document rows) here few read =
    inl (rows, record { bytes = bytes; file = record { short = few; found = λ t. here }; read = read })
by_outcome v at name before bytes (not_utf8 i) here few read = misread v at name before bytes (turtle.Lex (lex.NotUtf8 i)) here few (λ e. cc) read
by_outcome v at name before bytes (unclosed i) here few read = misread v at name before bytes (turtle.Lex (lex.Unclosed i)) here few (λ e. cc) read
by_outcome v at name before bytes (bad_byte i) here few read = misread v at name before bytes (turtle.Lex (lex.BadByte i)) here few (λ e. cc) read
by_outcome v at name before bytes (syntax i) here few read = misread v at name before bytes (turtle.Syntax i) here few (λ e. cc) read
by_outcome v at name before bytes (fault (no_prefix i)) here few read = misread v at name before bytes (turtle.NoPrefix i) here few (λ e. cc) read
by_outcome v at name before bytes (fault (bad_iri i)) here few read = misread v at name before bytes (turtle.BadIri i) here few (λ e. cc) read
by_outcome v at name before bytes (fault (too_deep i)) here few read = misread v at name before bytes (turtle.Depth i) here few (λ e. cc) read
by_outcome v at name before bytes (fault (full_store i)) here few read = misread v at name before bytes (turtle.StoreFull i) here few (λ e. cc) read

by_bytes : (v : VaultState) (at : Place) (name : List ℕ) (before : List Triple) (found : Option (List ℕ))
    → v.file (path_of at.path name) ≡ found → IsTaken v at name before
by_bytes v at name before None e = inr (Missing (path_of at.path name), tt, (refl, omega arith, λ t. e))
by_bytes v at name before (Some bytes) e = ⊎_elim
    (λ (many : MOST_FILE_BYTES < length bytes). inr (TooLong (path_of at.path name), tt, (refl, omega arith, λ t. (bytes, e, many))))
    (λ (few : length bytes ≤ MOST_FILE_BYTES).
    let outcome = every_outcome (file_iri at.number name) before bytes in by_outcome v at name before bytes outcome.0 e few outcome.1)
    (cases_lt MOST_FILE_BYTES (length bytes))

taken : (v : VaultState) (at : Place) (name : List ℕ) (before : List Triple) → IsTaken v at name before
taken v at name before = by_bytes v at name before (v.file (path_of at.path name)) refl

-- ---- files one after another

abbrev AreTaken : VaultState → Place → List (List ℕ) → List Triple → Type 0
AreTaken v at names before =
    ((rows : List Triple) × AddAll v at names before rows) ⊎ ((why : LoadFault) × IsOfFiles why × StopsAt v (risen v) at names before why)

stops_here : (v : VaultState) (at : Place) (name : List ℕ) (names : List (List ℕ)) (before : List Triple) (why : LoadFault)
    → IsRefused v (risen v) at name before why → StopsAt v (risen v) at (name ∷ names) before why
stops_here v at name names before why refused = record {
  front = [];
  name = name;
  back = names;
  order = refl;
  before = before;
  read = refl;
  refused = refused;
}

stops_later : (v : VaultState) (at : Place) (name : List ℕ) (names : List (List ℕ)) (before rows : List Triple) (why : LoadFault)
    → Adds v at name before rows → StopsAt v (risen v) at names rows why → StopsAt v (risen v) at (name ∷ names) before why
stops_later v at name names before rows why adds s = record {
  front = name ∷ s.front;
  name = s.name;
  back = s.back;
  order = ap (λ rest. name ∷ rest) s.order;
  before = s.before;
  read = (rows, adds, s.read);
  refused = s.refused;
}

all_taken : (v : VaultState) (at : Place) (names : List (List ℕ)) (before : List Triple) → AreTaken v at names before
all_taken v at [] before = inl (before, refl)
all_taken v at (name ∷ names) before = by (taken v at name before) (all_taken v at names)
  where
    on : (rows : List Triple) → Adds v at name before rows → AreTaken v at names rows → AreTaken v at (name ∷ names) before
    on rows adds (inl more) = inl (more.0, (rows, adds, more.1))
    on rows adds (inr stop) = inr (stop.0, stop.1, stops_later v at name names before rows stop.0 adds stop.2)

    by : IsTaken v at name before → ((rows : List Triple) → AreTaken v at names rows) → AreTaken v at (name ∷ names) before
    by (inl file) rest = on file.0 file.1 (rest file.0)
    by (inr stop) rest = inr (stop.0, stop.1, stops_here v at name names before stop.0 stop.2)

-- ---- the bundle

abbrev HasAnswer : VaultState → List ℕ → ℕ → Type 0
HasAnswer v path number = (a : Result (List Triple) LoadFault) × IsLoadedAs v path number a

refused : (v : VaultState) (path : List ℕ) (number : ℕ) (why : LoadFault) → IsOfFiles why
    → IsRefused v (risen v) (place number path) manifest [] why ⊎ StopsBehind v (risen v) (place number path) why → HasAnswer v path number
refused v path number why of h = (Err why, (of, (risen v, unloaded v (risen v) path number why h)))

behind : (v : VaultState) (path : List ℕ) (number : ℕ) (first : List Triple) → Adds v (place number path) manifest [] first
    → AreTaken v (place number path) (files_named number first) first → HasAnswer v path number
behind v path number first named (inl all) = (Ok all.0, record { first = first; named = named; all = all.1 })
behind v path number first named (inr stop) =
    refused v path number stop.0 stop.1 (inr (record { first = first; named = named; stops = stop.2 }))

pub some_answer : (v : VaultState) (path : List ℕ) (number : ℕ) → IsTrue v.tells → HasAnswer v path number
some_answer v path number known = by (taken v (place number path) manifest [])
  where
    by : IsTaken v (place number path) manifest [] → HasAnswer v path number
    by (inl file) = behind v path number file.0 file.1 (all_taken v (place number path) (files_named number file.0) file.0)
    by (inr stop) = refused v path number stop.0 stop.1 (inl stop.2)
