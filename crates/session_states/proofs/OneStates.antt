-- The state files of a known vault are read in one way.
use Rattle.std.proofs.Common.{◌≡◌, ◌≢◌, ℕ, zero, suc, ◌<◌, ◌≤◌, ◌⊎◌, List, [], ◌∷◌, ◌++◌, length, map, Option, Some, None, Result, Ok, Err, IsTrue, refl, sym, ◌∙◌, ap, subst, ⊎_elim, arith, inl, inr}
use Rattle.std.proofs.lemmas.Bool.{cases_lt}
use Rattle.lv_outside.specs.World.{VaultState}
use Rattle.session_load.specs.OneAnswer.{IsOfFiles}
use Rattle.session_load.specs.declared.fault.LoadFault.{LoadFault}
use Rattle.session_load.specs.declared.fault.LoadFault.TheVariants.{Missing, ReadFailed, TooLong, Turtle, NoMemory}
use Rattle.session_script.specs.declared.session.Session.{Session}
use Rattle.state_file.specs.Reading.{saves_of}
use Rattle.state_file.specs.declared.saved.Saved.{Saved}
use Rattle.state_store.specs.declared.prop.Prop.{Prop}
use Rattle.triple_store.specs.declared.term.Triple.{Triple}
use Rattle.turtle_document.specs.Answer.{Outcome, IsReadAs}
use Rattle.turtle_document.specs.Answer.Outcome.{document, not_utf8, unclosed, bad_byte, syntax, fault as faulty}
use Rattle.turtle_document.specs.Meaning.{beginning}
use Rattle.turtle_document.specs.Meaning.Fault.{no_prefix, bad_iri, too_deep, full_store}
use Rattle.turtle_document.proofs.OneOutcome.{one_outcome}
use Rattle.turtle_lex.specs.declared.fault.LexFault.TheVariants as lex
use Rattle.turtle_read.specs.Answers.{Tells, answer_of}
use Rattle.turtle_read.specs.declared.fault.TurtleFault.{TurtleFault}
use Rattle.turtle_read.specs.declared.fault.TurtleFault.TheVariants as turtle
use Rattle.session_states.specs.Answer.{restored, paths_of, HasStates, HasNoStates, IsOfStates, Answer, IsAnswer}
use Rattle.session_states.specs.File.{base_of, Reads, HasRows, IsUnread, GivesStates, IsJudged, IsRefused}
use Rattle.session_states.specs.Files.{path_at, GiveStates, StopsAt}
use Rattle.session_states.specs.Restores.{restores_of}
use Rattle.session_states.specs.Rules.{verdict, with_states}
use Rattle.session_states.specs.declared.fault.StatesFault.{StatesFault}
use Rattle.session_states.specs.declared.fault.StatesFault.TheVariants.{Load, Broken, UridFull}
use Rattle.session_states.specs.declared.one_file.TheConstants.{MOST_STATE_FILE_BYTES}
use Rattle.session_states.specs.declared.restore.Restore.{Restore}

-- ---- the rows of one file

same_bytes : (found : Option (List ℕ)) (a b : List ℕ) → found ≡ Some a → found ≡ Some b → a ≡ b
same_bytes found a b here there = cc

nowhere : (found : Option (List ℕ)) (a : List ℕ) → found ≡ None → found ≡ Some a → ⊥
nowhere found a none here = cc

too_long : (found : Option (List ℕ)) (a b : List ℕ) → found ≡ Some a → found ≡ Some b → length a ≤ MOST_STATE_FILE_BYTES → MOST_STATE_FILE_BYTES < length b → ⊥
too_long found a b here there few much = let same = ap length (same_bytes found a b here there) in omega (arith, same)

-- the outcome that a fault of the reader tells
told : (Has : Outcome → Type 0) (why : TurtleFault) → why ≢ turtle.NoMemory → Tells Has why → (o : Outcome) × Has o × (answer_of [] o ≡ Err why)
told Has (turtle.Lex (lex.NotUtf8 at)) some h = (not_utf8 at, h, refl)
told Has (turtle.Lex (lex.Unclosed at)) some h = (unclosed at, h, refl)
told Has (turtle.Lex (lex.BadByte at)) some h = (bad_byte at, h, refl)
told Has (turtle.Syntax at) some h = (syntax at, h, refl)
told Has (turtle.NoPrefix at) some h = (faulty (no_prefix at), h, refl)
told Has (turtle.BadIri at) some h = (faulty (bad_iri at), h, refl)
told Has (turtle.Depth at) some h = (faulty (too_deep at), h, refl)
told Has (turtle.StoreFull at) some h = (faulty (full_store at), h, refl)
told Has turtle.NoMemory some h = absurd (some refl)

-- why a known file has no rows; none of these is want of memory or a failed read
data Stops (v : VaultState) (number : ℕ) (path : List ℕ) (why : LoadFault) : Type 0 where
  gone : v.file path ≡ None → why ≡ Missing path → Stops v number path why
  large : (bytes : List ℕ) → v.file path ≡ Some bytes → MOST_STATE_FILE_BYTES < length bytes → why ≡ TooLong path → Stops v number path why
  unread : (bytes : List ℕ) → v.file path ≡ Some bytes → length bytes ≤ MOST_STATE_FILE_BYTES → (o : Outcome) → Reads number bytes o
      → (cause : TurtleFault) → answer_of [] o ≡ Err cause → why ≡ Turtle path cause → Stops v number path why

stops : (v after : VaultState) (number : ℕ) (path : List ℕ) (why : LoadFault) → IsTrue v.tells → IsOfFiles why → IsUnread v after number path why → Stops v number path why
stops v after number path (Missing at) known of x = gone (x.2 known) (ap Missing x.0)
stops v after number path (ReadFailed at) known of x = absurd of
stops v after number path (TooLong at) known of x = let file = x.2 known in large file.0 file.1 file.2 (ap TooLong x.0)
stops v after number path (Turtle at cause) known of x =
    let o = told (Reads number x.0) cause x.2.1 x.2.2 in
    unread x.0 (x.1.found known) x.1.short o.0 o.1 cause o.2 (ap (λ (q : List ℕ). Turtle q cause) x.2.0)
stops v after number path NoMemory known of x = absurd of

-- a file is read in one way
one_reading : (v : VaultState) (number : ℕ) (path a b : List ℕ) (o p : Outcome) → v.file path ≡ Some a → v.file path ≡ Some b
    → Reads number a o → Reads number b p → o ≡ p
one_reading v number path a b o p here there x y =
    let Read : List ℕ → Type 0 = λ bytes. Reads number bytes p in
    let same : b ≡ a = same_bytes (v.file path) b a there here in
    one_outcome (base_of number) [] a o p x (subst Read same y)

one_cause : (o p : Outcome) (a b : TurtleFault) → o ≡ p → answer_of [] o ≡ Err a → answer_of [] p ≡ Err b → a ≡ b
one_cause o p a b e x y = let same : Err a ≡ Err b = sym x ∙ ap (answer_of []) e ∙ y in cc

one_stop : (v : VaultState) (number : ℕ) (path : List ℕ) (a b : LoadFault) → Stops v number path a → Stops v number path b → a ≡ b
one_stop v number path a b (gone none e) (gone more f) = e ∙ sym f
one_stop v number path a b (gone none e) (large bytes here much f) = absurd (nowhere _ bytes none here)
one_stop v number path a b (gone none e) (unread bytes here few o read cause tells f) = absurd (nowhere _ bytes none here)
one_stop v number path a b (large bytes here much e) (gone none f) = absurd (nowhere _ bytes none here)
one_stop v number path a b (large bytes here much e) (large text there more f) = e ∙ sym f
one_stop v number path a b (large bytes here much e) (unread text there few o read cause tells f) = absurd (too_long _ text bytes there here few much)
one_stop v number path a b (unread bytes here few o read cause tells e) (gone none f) = absurd (nowhere _ bytes none here)
one_stop v number path a b (unread bytes here few o read cause tells e) (large text there much f) = absurd (too_long _ bytes text here there few much)
one_stop v number path a b (unread bytes here few o read cause tells e) (unread text there small p too other says f) =
    let same = one_cause o p cause other (one_reading v number path bytes text o p here there read too) tells says in
    e ∙ ap (Turtle path) same ∙ sym f

same_rows : (v : VaultState) (number : ℕ) (path : List ℕ) (a b : List Triple) → IsTrue v.tells → HasRows v number path a → HasRows v number path b → a ≡ b
same_rows v number path a b known x y =
    let same : document a ≡ document b =
    one_reading v number path x.bytes y.bytes (document a) (document b) (x.file.found known) (y.file.found known) x.read y.read in cc

no_document : (rows : List Triple) (o : Outcome) (cause : TurtleFault) → o ≡ document rows → answer_of [] o ≡ Err cause → ⊥
no_document rows o cause e tells = let wrong : answer_of [] (document rows) ≡ Err cause = ap (answer_of []) (sym e) ∙ tells in cc

no_rows : (v : VaultState) (number : ℕ) (path : List ℕ) (rows : List Triple) (why : LoadFault) → IsTrue v.tells → Stops v number path why → HasRows v number path rows → ⊥
no_rows v number path rows why known (gone none e) y = nowhere _ y.bytes none (y.file.found known)
no_rows v number path rows why known (large bytes here much e) y = too_long _ y.bytes bytes (y.file.found known) here y.file.short much
no_rows v number path rows why known (unread bytes here few o read cause tells e) y =
    no_document rows o cause (one_reading v number path bytes y.bytes o (document rows) here (y.file.found known) read y.read) tells

-- ---- the states of one file

-- a refusal is one of the file, or one of its rows
abbrev IsStopped : VaultState → List Restore → ℕ → List ℕ → List (List ℕ) → StatesFault → Type 0
IsStopped v restores number path urids fault =
    ((why : LoadFault) × (fault ≡ Load why) × Stops v number path why) ⊎ IsJudged v restores number path urids fault

stopped : (v after : VaultState) (restores : List Restore) (number : ℕ) (path : List ℕ) (urids : List (List ℕ)) (fault : StatesFault) → IsTrue v.tells → IsOfStates fault
    → IsRefused v after restores number path urids fault → IsStopped v restores number path urids fault
stopped v after restores number path urids (Load why) known of x = inl (why, refl, stops v after number path why known of x)
stopped v after restores number path urids (Broken at rule) known of x = inr x
stopped v after restores number path urids UridFull known of x = inr x

same_verdict : (verdict : Option StatesFault) (a b : StatesFault) → verdict ≡ Some a → verdict ≡ Some b → a ≡ b
same_verdict verdict a b x y = cc

one_refusal : (v : VaultState) (restores : List Restore) (number : ℕ) (path : List ℕ) (urids : List (List ℕ)) (a b : StatesFault) → IsTrue v.tells
    → IsStopped v restores number path urids a → IsStopped v restores number path urids b → a ≡ b
one_refusal v restores number path urids a b known (inl x) (inl y) = x.1 ∙ ap Load (one_stop v number path x.0 y.0 x.2 y.2) ∙ sym y.1
one_refusal v restores number path urids a b known (inl x) (inr y) = absurd (no_rows v number path y.rows x.0 known x.2 y.has)
one_refusal v restores number path urids a b known (inr x) (inl y) = absurd (no_rows v number path x.rows y.0 known y.2 x.has)
one_refusal v restores number path urids a b known (inr x) (inr y) =
    let same : y.rows ≡ x.rows = same_rows v number path y.rows x.rows known y.has x.has in
    same_verdict (verdict path restores x.rows urids) a b x.cause (subst (λ (rows : List Triple). verdict path restores rows urids ≡ Some b) same y.cause)

passed_or_not : (verdict : Option StatesFault) (a : StatesFault) → verdict ≡ None → verdict ≡ Some a → ⊥
passed_or_not verdict a x y = cc

gives_or_not : (v : VaultState) (restores : List Restore) (number : ℕ) (path : List ℕ) (urids : List (List ℕ)) (saves : List Saved) (after : List (List ℕ)) (fault : StatesFault) → IsTrue v.tells
    → GivesStates v restores number path urids saves after → IsStopped v restores number path urids fault → ⊥
gives_or_not v restores number path urids saves after fault known x (inl y) = no_rows v number path x.rows y.0 known y.2 x.has
gives_or_not v restores number path urids saves after fault known x (inr y) =
    let same : y.rows ≡ x.rows = same_rows v number path y.rows x.rows known y.has x.has in
    passed_or_not (verdict path restores x.rows urids) fault x.passed.passed (subst (λ (rows : List Triple). verdict path restores rows urids ≡ Some fault) same y.cause)

same_after : (v : VaultState) (restores : List Restore) (number : ℕ) (path : List ℕ) (urids : List (List ℕ)) (saves others : List Saved) (a b : List (List ℕ)) → IsTrue v.tells
    → GivesStates v restores number path urids saves a → GivesStates v restores number path urids others b → a ≡ b
same_after v restores number path urids saves others a b known x y =
    x.passed.mapped ∙ ap (λ rows. with_states urids rows) (same_rows v number path x.rows y.rows known x.has y.has) ∙ sym y.passed.mapped

same_saves : (v : VaultState) (restores : List Restore) (number : ℕ) (path : List ℕ) (urids : List (List ℕ)) (saves others : List Saved) (a b : List (List ℕ)) → IsTrue v.tells
    → GivesStates v restores number path urids saves a → GivesStates v restores number path urids others b → saves ≡ others
same_saves v restores number path urids saves others a b known x y =
    x.passed.states ∙ ap (λ rows. saves_of rows a) (same_rows v number path x.rows y.rows known x.has y.has)
    ∙ ap (λ u. saves_of y.rows u) (same_after v restores number path urids saves others a b known x y) ∙ sym y.passed.states

-- ---- files one after another

same_files : (v : VaultState) (restores : List Restore) (paths urids : List (List ℕ)) (number : ℕ) (files others : List (List Saved)) (a b : List (List ℕ)) → IsTrue v.tells
    → GiveStates v restores paths urids number files a → GiveStates v restores paths urids number others b → (files ≡ others) × (a ≡ b)
same_files v restores paths urids zero files others a b known x y = (x.0 ∙ sym y.0, x.1 ∙ sym y.1)
same_files v restores paths urids (suc number) files others a b known x y =
    let front = same_files v restores paths urids number y.0 x.0 y.2 x.2 known y.3 x.3 in
    let here = subst (λ (between : List (List ℕ)). GivesStates v restores number (path_at paths number) between y.1 b) front.1 y.4 in
    let saves = same_saves v restores number (path_at paths number) x.2 x.1 y.1 a b known x.4 here in
    let after = same_after v restores number (path_at paths number) x.2 x.1 y.1 a b known x.4 here in
    (x.5 ∙ ap (λ fs. fs ++ x.1 ∷ []) (sym front.0) ∙ ap (λ (s : List Saved). y.0 ++ s ∷ []) saves ∙ sym y.5, after)

-- one of the files that give states
record Gives (v : VaultState) (restores : List Restore) (paths urids : List (List ℕ)) (number : ℕ) : Type 0 where
  files : List (List Saved)
  between : List (List ℕ)
  saves : List Saved
  after : List (List ℕ)
  before : GiveStates v restores paths urids number files between
  here : GivesStates v restores number (path_at paths number) between saves after

one_of : (v : VaultState) (restores : List Restore) (paths urids : List (List ℕ)) (number j : ℕ) (files : List (List Saved)) (after : List (List ℕ)) → j < number
    → GiveStates v restores paths urids number files after → Gives v restores paths urids j
one_of v restores paths urids zero j files after within x = absurd (omega (arith, within))
one_of v restores paths urids (suc number) j files after within x = ⊎_elim
    (λ (lower : j < number). one_of v restores paths urids number j x.0 x.2 lower x.3)
    (λ (upper : number ≤ j).
    let last : number ≡ j = omega (arith, within, upper) in
    subst (λ (n : ℕ). Gives v restores paths urids n) last
    (record { files = x.0; between = x.2; saves = x.1; after = after; before = x.3; here = x.4 }))
    (cases_lt j number)

-- where a file gives states, the files don't stop at it
no_stop : (v v' : VaultState) (restores : List Restore) (paths urids : List (List ℕ)) (number : ℕ) (files : List (List Saved)) (after : List (List ℕ)) (fault : StatesFault) → IsTrue v.tells → IsOfStates fault
    → GiveStates v restores paths urids number files after → (s : StopsAt v v' restores paths urids fault) → s.number < number → ⊥
no_stop v v' restores paths urids number files after fault known of x s lower =
    let g = one_of v restores paths urids number s.number files after lower x in
    let same = same_files v restores paths urids s.number s.files g.files s.between g.between known s.before g.before in
    let refused = stopped v v' restores s.number (path_at paths s.number) s.between fault known of s.refused in
    gives_or_not v restores s.number (path_at paths s.number) g.between g.saves g.after fault known g.here
    (subst (λ (between : List (List ℕ)). IsStopped v restores s.number (path_at paths s.number) between fault) same.1 refused)

one_end : (v v' v'' : VaultState) (restores : List Restore) (paths urids : List (List ℕ)) (a b : StatesFault) → IsTrue v.tells → IsOfStates a → IsOfStates b
    → StopsAt v v' restores paths urids a → StopsAt v v'' restores paths urids b → a ≡ b
one_end v v' v'' restores paths urids a b known of of' s t = ⊎_elim
    (λ (lower : s.number < t.number). absurd (no_stop v v' restores paths urids t.number t.files t.between a known of t.before s lower))
    (λ (rest : t.number ≤ s.number). ⊎_elim
    (λ (lower : t.number < s.number). absurd (no_stop v v'' restores paths urids s.number s.files s.between b known of' s.before t lower))
    (λ (other : s.number ≤ t.number). at_one (omega (arith, rest, other)))
    (cases_lt t.number s.number))
    (cases_lt s.number t.number)
  where
    at_one : t.number ≡ s.number → a ≡ b
    at_one e =
        let before = subst (λ (n : ℕ). GiveStates v restores paths urids n t.files t.between) e t.before in
        let refused = subst (λ (n : ℕ). IsRefused v v'' restores n (path_at paths n) t.between b) e t.refused in
        let same = same_files v restores paths urids s.number t.files s.files t.between s.between known before s.before in
        let there = stopped v v'' restores s.number (path_at paths s.number) t.between b known of' refused in
        one_refusal v restores s.number (path_at paths s.number) s.between a b known
        (stopped v v' restores s.number (path_at paths s.number) s.between a known of s.refused)
        (subst (λ (between : List (List ℕ)). IsStopped v restores s.number (path_at paths s.number) between b) same.1 there)

-- ---- the whole answer

ends : (v v' : VaultState) (session : Session) (urids : List (List ℕ)) (fault : StatesFault) → IsOfStates fault
    → HasNoStates v v' session urids fault → StopsAt v v' (restores_of session) (paths_of session) urids fault
ends v v' session urids (Load (Missing at)) of h = h
ends v v' session urids (Load (ReadFailed at)) of h = absurd of
ends v v' session urids (Load (TooLong at)) of h = h
ends v v' session urids (Load (Turtle at why)) of h = h
ends v v' session urids (Load NoMemory) of h = absurd of
ends v v' session urids (Broken at rule) of h = h
ends v v' session urids UridFull of h = h

not_both : (v v' : VaultState) (session : Session) (urids : List (List ℕ)) (states : List (List (ℕ × Prop))) (after : List (List ℕ)) (fault : StatesFault) → IsTrue v.tells
    → HasStates v session urids states after → IsOfStates fault → HasNoStates v v' session urids fault → ⊥
not_both v v' session urids states after fault known x of y =
    let s = ends v v' session urids fault of y in
    no_stop v v' (restores_of session) (paths_of session) urids (length (paths_of session)) x.files after fault known of x.read s s.within

pub one_answer : (v : VaultState) (session : Session) (urids : List (List ℕ)) (a b : Answer) → IsTrue v.tells → IsAnswer v session urids a → IsAnswer v session urids b → a ≡ b
one_answer v session urids (Ok (states, after)) (Ok (others, then)) known x y =
    let same = same_files v (restores_of session) (paths_of session) urids (length (paths_of session)) x.files y.files after then known x.read y.read in
    let given : states ≡ others = x.given ∙ ap (λ fs. map (restored (paths_of session) fs) (restores_of session)) same.0 ∙ sym y.given in
    ap (λ (s : List (List (ℕ × Prop))). Ok (s, after)) given ∙ ap (λ (u : List (List ℕ)). Ok (others, u)) same.1
one_answer v session urids (Ok (states, after)) (Err fault) known x y = absurd (not_both v y.1.0 session urids states after fault known x y.0 y.1.1)
one_answer v session urids (Err fault) (Ok (states, after)) known x y = absurd (not_both v x.1.0 session urids states after fault known y x.0 x.1.1)
one_answer v session urids (Err a) (Err b) known x y =
    ap (λ f. Err f)
    (one_end v x.1.0 y.1.0 (restores_of session) (paths_of session) urids a b known x.0 y.0
    (ends v x.1.0 session urids a x.0 x.1.1) (ends v y.1.0 session urids b y.0 y.1.1))
