-- The state files of a known vault give an answer.
use Rattle.std.proofs.Common.{◌≡◌, ◌≢◌, ℕ, zero, suc, ◌<◌, ◌≤◌, ◌⊎◌, ◌^◌, Bool, true, false, cond, List, [], ◌∷◌, ◌++◌, length, map, Option, Some, None, Result, Ok, Err, IsTrue, refl, sym, ◌∙◌, ap, ⊎_elim, arith, inl, inr}
use Rattle.std.proofs.lemmas.Bool.{cases_lt}
use Rattle.std.specs.Option.{option_map}
use Rattle.std.specs.Prelude.{nat_lt}
use Rattle.std.specs.List.{list_all}
use Rattle.lv_outside.specs.Count.{next_count}
use Rattle.lv_outside.specs.World.{VaultState}
use Rattle.session_load.specs.OneAnswer.{IsOfFiles}
use Rattle.session_load.specs.declared.fault.LoadFault.{LoadFault}
use Rattle.session_load.specs.declared.fault.LoadFault.TheVariants.{Missing, TooLong, Turtle}
use Rattle.session_script.specs.declared.session.Session.{Session}
use Rattle.state_file.specs.Reading.{saves_of}
use Rattle.state_file.specs.Rules.{is_shaped, has_flags, has_bytes, has_few, first_broken}
use Rattle.state_file.specs.States.{states_in}
use Rattle.state_file.specs.declared.fault.StateFault.{StateFault}
use Rattle.state_file.specs.declared.fault.StateFault.TheVariants as state
use Rattle.state_file.specs.declared.saved.Saved.{Saved}
use Rattle.triple_store.specs.declared.term.Triple.{Triple}
use Rattle.turtle_document.specs.Answer.{Outcome}
use Rattle.turtle_document.specs.Answer.Outcome.{document, not_utf8, unclosed, bad_byte, syntax, fault as faulty}
use Rattle.turtle_document.specs.Meaning.Fault.{no_prefix, bad_iri, too_deep, full_store}
use Rattle.turtle_document.proofs.Outcomes.{every_outcome}
use Rattle.turtle_lex.specs.declared.fault.LexFault.TheVariants as lex
use Rattle.turtle_read.specs.Answers.{Tells}
use Rattle.turtle_read.specs.declared.fault.TurtleFault.{TurtleFault}
use Rattle.turtle_read.specs.declared.fault.TurtleFault.TheVariants as turtle
use Rattle.session_states.specs.Answer.{restored, paths_of, IsOfStates, Answer, IsAnswer}
use Rattle.session_states.specs.File.{base_of, Reads, HasRows, IsUnread, GivesStates, IsRefused}
use Rattle.session_states.specs.Files.{path_at, GiveStates, StopsAt}
use Rattle.session_states.specs.Restores.{restores_of}
use Rattle.session_states.specs.Rules.{restores_from, broken_by, fault_of, with_states, verdict, verdict_by, verdict_after}
use Rattle.session_states.specs.declared.fault.Rule.{Rule}
use Rattle.session_states.specs.declared.fault.StatesFault.{StatesFault}
use Rattle.session_states.specs.declared.fault.StatesFault.TheVariants.{Load, Broken, UridFull}
use Rattle.session_states.specs.declared.one_file.TheConstants.{MOST_STATE_FILE_BYTES}
use Rattle.session_states.specs.declared.restore.Restore.{Restore}
use Rattle.session_states.proofs.Earlier.{no_states}

-- a vault that counted one more absence and one more file that was too long
abbrev risen : VaultState → VaultState
risen v = record { tells = v.tells; file = v.file; faults = v.faults; absences = next_count v.absences; longs = next_count v.longs }

-- ---- the rows of one file

abbrev IsRead : VaultState → ℕ → List ℕ → Type 0
IsRead v number path = ((rows : List Triple) × HasRows v number path rows) ⊎ ((why : LoadFault) × IsOfFiles why × IsUnread v (risen v) number path why)

misread : (v : VaultState) (number : ℕ) (path bytes : List ℕ) (cause : TurtleFault) → v.file path ≡ Some bytes → length bytes ≤ MOST_STATE_FILE_BYTES → cause ≢ turtle.NoMemory
    → Tells (Reads number bytes) cause → IsRead v number path
misread v number path bytes cause here few some tells = inr (Turtle path cause, tt, (bytes, record { short = few; found = λ t. here }, (refl, some, tells)))

by_outcome : (v : VaultState) (number : ℕ) (path bytes : List ℕ) (o : Outcome) → v.file path ≡ Some bytes → length bytes ≤ MOST_STATE_FILE_BYTES → Reads number bytes o → IsRead v number path
by_outcome v number path bytes (document rows) here few read = inl (rows, record { bytes = bytes; file = record { short = few; found = λ t. here }; read = read })
by_outcome v number path bytes (not_utf8 i) here few read = misread v number path bytes (turtle.Lex (lex.NotUtf8 i)) here few (λ e. cc) read
by_outcome v number path bytes (unclosed i) here few read = misread v number path bytes (turtle.Lex (lex.Unclosed i)) here few (λ e. cc) read
by_outcome v number path bytes (bad_byte i) here few read = misread v number path bytes (turtle.Lex (lex.BadByte i)) here few (λ e. cc) read
by_outcome v number path bytes (syntax i) here few read = misread v number path bytes (turtle.Syntax i) here few (λ e. cc) read
by_outcome v number path bytes (faulty (no_prefix i)) here few read = misread v number path bytes (turtle.NoPrefix i) here few (λ e. cc) read
by_outcome v number path bytes (faulty (bad_iri i)) here few read = misread v number path bytes (turtle.BadIri i) here few (λ e. cc) read
by_outcome v number path bytes (faulty (too_deep i)) here few read = misread v number path bytes (turtle.Depth i) here few (λ e. cc) read
by_outcome v number path bytes (faulty (full_store i)) here few read = misread v number path bytes (turtle.StoreFull i) here few (λ e. cc) read

by_bytes : (v : VaultState) (number : ℕ) (path : List ℕ) (found : Option (List ℕ)) → v.file path ≡ found → IsRead v number path
by_bytes v number path None e = inr (Missing path, tt, (refl, omega arith, λ t. e))
by_bytes v number path (Some bytes) e = ⊎_elim
    (λ (many : MOST_STATE_FILE_BYTES < length bytes). inr (TooLong path, tt, (refl, omega arith, λ t. (bytes, e, many))))
    (λ (few : length bytes ≤ MOST_STATE_FILE_BYTES).
    let outcome = every_outcome (base_of number) [] bytes in by_outcome v number path bytes outcome.0 e few outcome.1)
    (cases_lt MOST_STATE_FILE_BYTES (length bytes))

-- ---- the states of one file

-- no rule of states is want of memory
kept_memory : (a b c d : Bool) → cond a (Some state.Shape) (cond b (Some state.Flags) (cond c (Some state.Bytes) (cond d (Some state.Size) None))) ≡ Some state.NoMemory → ⊥
kept_memory true b c d e = cc
kept_memory false true c d e = cc
kept_memory false false true d e = cc
kept_memory false false false true e = cc
kept_memory false false false false e = cc

never_memory : (rows : List Triple) → first_broken rows ≡ Some state.NoMemory → ⊥
unfolding first_broken
never_memory rows e = kept_memory _ _ _ _ e

-- what is told of states isn't want of memory
some_rule : (path : List ℕ) (rows : List Triple) (fault : StateFault) (why : LoadFault) → first_broken rows ≡ Some fault → Some (fault_of path fault) ≡ Some (Load why) → ⊥
some_rule path rows state.Shape why is e = cc
some_rule path rows state.Flags why is e = cc
some_rule path rows state.Bytes why is e = cc
some_rule path rows state.Size why is e = cc
some_rule path rows state.UridFull why is e = cc
some_rule path rows state.NoMemory why is e = never_memory rows is

some_restore : (path : List ℕ) (broken : Option Rule) (why : LoadFault) → option_map (λ rule. Broken path rule) broken ≡ Some (Load why) → ⊥
some_restore path None why e = cc
some_restore path (Some rule) why e = cc

some_number : (path : List ℕ) (full : Bool) (broken : Option Rule) (why : LoadFault) → cond full (Some UridFull) (option_map (λ rule. Broken path rule) broken) ≡ Some (Load why) → ⊥
some_number path true broken why e = cc
some_number path false broken why e = some_restore path broken why e

some_cause : (path : List ℕ) (restores : List Restore) (rows : List Triple) (urids : List (List ℕ)) (broken : Option StateFault) (why : LoadFault) → first_broken rows ≡ broken
    → verdict_by broken path restores rows urids ≡ Some (Load why) → ⊥
some_cause path restores rows urids (Some fault) why is e = some_rule path rows fault why is e
some_cause path restores rows urids None why is e =
    some_number path (nat_lt (2 ^ 20) (length (with_states urids rows))) (broken_by (saves_of rows (with_states urids rows)) (restores_from path restores)) why e

-- a file gives states, or stops all
abbrev IsTaken : VaultState → List Restore → ℕ → List ℕ → List (List ℕ) → Type 0
IsTaken v restores number path urids =
    ((saves : List Saved) × (after : List (List ℕ)) × GivesStates v restores number path urids saves after)
    ⊎ ((why : StatesFault) × IsOfStates why × IsRefused v (risen v) restores number path urids why)

by_cause : (v : VaultState) (restores : List Restore) (number : ℕ) (path : List ℕ) (urids : List (List ℕ)) (rows : List Triple) (why : StatesFault) → HasRows v number path rows
    → verdict path restores rows urids ≡ Some why → IsTaken v restores number path urids
by_cause v restores number path urids rows (Load why) has e = absurd (some_cause path restores rows urids (first_broken rows) why refl e)
by_cause v restores number path urids rows (Broken at rule) has e = inr (Broken at rule, tt, record { rows = rows; has = has; cause = e })
by_cause v restores number path urids rows UridFull has e = inr (UridFull, tt, record { rows = rows; has = has; cause = e })

by_verdict : (v : VaultState) (restores : List Restore) (number : ℕ) (path : List ℕ) (urids : List (List ℕ)) (rows : List Triple) (found : Option StatesFault) → HasRows v number path rows
    → verdict path restores rows urids ≡ found → IsTaken v restores number path urids
by_verdict v restores number path urids rows None has e =
    inl (
      saves_of rows (with_states urids rows),
      with_states urids rows,
      record {
        rows = rows;
        has = has;
        passed = record { passed = e; mapped = refl; states = refl };
      },
    )
by_verdict v restores number path urids rows (Some why) has e = by_cause v restores number path urids rows why has e

by_rows : (v : VaultState) (restores : List Restore) (number : ℕ) (path : List ℕ) (urids : List (List ℕ)) → IsRead v number path → IsTaken v restores number path urids
by_rows v restores number path urids (inl x) = by_verdict v restores number path urids x.0 (verdict path restores x.0 urids) x.1 refl
by_rows v restores number path urids (inr x) = inr (Load x.0, x.1, x.2)

taken : (v : VaultState) (restores : List Restore) (number : ℕ) (path : List ℕ) (urids : List (List ℕ)) → IsTaken v restores number path urids
taken v restores number path urids = by_rows v restores number path urids (by_bytes v number path (v.file path) refl)

-- ---- files one after another

-- one of the first files stops all
record Stops (v : VaultState) (restores : List Restore) (paths urids : List (List ℕ)) (upto : ℕ) (why : StatesFault) : Type 0 where
  number : ℕ
  within : number < upto
  files : List (List Saved)
  between : List (List ℕ)
  before : GiveStates v restores paths urids number files between
  refused : IsRefused v (risen v) restores number (path_at paths number) between why

abbrev AreTaken : VaultState → List Restore → List (List ℕ) → List (List ℕ) → ℕ → Type 0
AreTaken v restores paths urids upto =
    ((files : List (List Saved)) × (after : List (List ℕ)) × GiveStates v restores paths urids upto files after)
    ⊎ ((why : StatesFault) × IsOfStates why × Stops v restores paths urids upto why)

further : (v : VaultState) (restores : List Restore) (paths urids : List (List ℕ)) (upto : ℕ) (why : StatesFault) → Stops v restores paths urids upto why → Stops v restores paths urids (suc upto) why
further v restores paths urids upto why s =
    record { number = s.number; within = omega (arith, s.within); files = s.files; between = s.between; before = s.before; refused = s.refused }

all_taken : (v : VaultState) (restores : List Restore) (paths urids : List (List ℕ)) (upto : ℕ) → AreTaken v restores paths urids upto
all_taken v restores paths urids zero = inl ([], urids, (refl, refl))
all_taken v restores paths urids (suc upto) = by (all_taken v restores paths urids upto)
  where
    on : (files : List (List Saved)) (between : List (List ℕ)) → GiveStates v restores paths urids upto files between
        → IsTaken v restores upto (path_at paths upto) between → AreTaken v restores paths urids (suc upto)
    on files between before (inl x) = inl (files ++ x.0 ∷ [], x.1, (files, x.0, between, before, x.2, refl))
    on files between before (inr x) =
        inr (x.0, x.1, record { number = upto; within = omega arith; files = files; between = between; before = before; refused = x.2 })

    by : AreTaken v restores paths urids upto → AreTaken v restores paths urids (suc upto)
    by (inl x) = on x.0 x.1 x.2 (taken v restores upto (path_at paths upto) x.1)
    by (inr x) = inr (x.0, x.1, further v restores paths urids upto x.0 x.2)

-- ---- the whole answer

answer : (v : VaultState) (session : Session) (urids : List (List ℕ)) → AreTaken v (restores_of session) (paths_of session) urids (length (paths_of session))
    → (a : Answer) × IsAnswer v session urids a
answer v session urids (inl x) = (Ok (map (restored (paths_of session) x.0) (restores_of session), x.1), record { files = x.0; read = x.2; given = refl })
answer v session urids (inr x) =
    let s = x.2 in
    let stop : StopsAt v (risen v) (restores_of session) (paths_of session) urids x.0 =
    record { number = s.number; within = s.within; files = s.files; between = s.between; before = s.before; refused = s.refused } in
    (Err x.0, (x.1, (risen v, no_states v (risen v) session urids x.0 stop)))

pub some_answer : (v : VaultState) (session : Session) (urids : List (List ℕ)) → IsTrue v.tells → (a : Answer) × IsAnswer v session urids a
some_answer v session urids known = answer v session urids (all_taken v (restores_of session) (paths_of session) urids (length (paths_of session)))
