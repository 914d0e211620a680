-- The files of a known vault are loaded in one way.
use Rattle.std.proofs.Common.{◌≡◌, ◌≢◌, ℕ, ◌<◌, ◌≤◌, ◌⊎◌, List, [], ◌∷◌, ◌++◌, length, Option, Some, None, Result, Ok, Err, IsTrue, refl, sym, ◌∙◌, ap, subst, arith, inl, inr}
use Rattle.lv_outside.specs.World.{VaultState}
use Rattle.triple_store.specs.declared.term.Triple.{Triple}
use Rattle.turtle_document.specs.Answer.{Outcome, IsReadAs}
use Rattle.turtle_document.specs.Answer.Outcome.{document, not_utf8, unclosed, bad_byte, syntax, fault}
use Rattle.turtle_document.specs.Meaning.{beginning}
use Rattle.turtle_document.specs.Meaning.Fault.{no_prefix, bad_iri, too_deep, full_store}
use Rattle.turtle_document.proofs.OneOutcome.{one_outcome}
use Rattle.turtle_lex.specs.declared.fault.LexFault.TheVariants as lex
use Rattle.turtle_read.specs.Answers.{Tells, answer_of}
use Rattle.turtle_read.specs.declared.fault.TurtleFault.{TurtleFault}
use Rattle.turtle_read.specs.declared.fault.TurtleFault.TheVariants as turtle
use Rattle.session_load.specs.Names.{manifest, path_of, file_iri, files_named}
use Rattle.session_load.specs.Bundle.{Place, place, Adds, AddAll, IsRefused, StopsBehind}
use Rattle.session_load.specs.OneAnswer.{IsOfFiles, IsLoadedAs}
use Rattle.session_load.specs.declared.bundle_files.TheConstants.{MOST_FILE_BYTES}
use Rattle.session_load.specs.declared.fault.LoadFault.{LoadFault}
use Rattle.session_load.specs.declared.fault.LoadFault.TheVariants.{Missing, ReadFailed, TooLong, Turtle, NoMemory}

abbrev Answer : Type 0
Answer = Result (List Triple) LoadFault

-- ---- one file

-- a file that is there is that file, and isn't missing
same_bytes : (found : Option (List ℕ)) (a b : List ℕ) → found ≡ Some a → found ≡ Some b → a ≡ b
same_bytes found a b here there = cc

nowhere : (found : Option (List ℕ)) (a : List ℕ) → found ≡ None → found ≡ Some a → ⊥
nowhere found a none here = cc

-- the outcome that a fault of the reader tells
told : (Has : Outcome → Type 0) (why : TurtleFault) → why ≢ turtle.NoMemory → Tells Has why → (o : Outcome) × Has o × (answer_of [] o ≡ Err why)
told Has (turtle.Lex (lex.NotUtf8 at)) some h = (not_utf8 at, h, refl)
told Has (turtle.Lex (lex.Unclosed at)) some h = (unclosed at, h, refl)
told Has (turtle.Lex (lex.BadByte at)) some h = (bad_byte at, h, refl)
told Has (turtle.Syntax at) some h = (syntax at, h, refl)
told Has (turtle.NoPrefix at) some h = (fault (no_prefix at), h, refl)
told Has (turtle.BadIri at) some h = (fault (bad_iri at), h, refl)
told Has (turtle.Depth at) some h = (fault (too_deep at), h, refl)
told Has (turtle.StoreFull at) some h = (fault (full_store at), h, refl)
told Has turtle.NoMemory some h = absurd (some refl)

-- Why a known file can't be read after some rows. None of these is want of memory or a failed read.
data Stops (v : VaultState) (at : Place) (name : List ℕ) (before : List Triple) (why : LoadFault) : Type 0 where
  gone : v.file (path_of at.path name) ≡ None → why ≡ Missing (path_of at.path name) → Stops v at name before why
  large : (bytes : List ℕ) → v.file (path_of at.path name) ≡ Some bytes → MOST_FILE_BYTES < length bytes → why ≡ TooLong (path_of at.path name) → Stops v at name before why
  unread : (bytes : List ℕ) → v.file (path_of at.path name) ≡ Some bytes → length bytes ≤ MOST_FILE_BYTES → (o : Outcome)
      → IsReadAs (beginning (file_iri at.number name) before) bytes o → (cause : TurtleFault) → answer_of [] o ≡ Err cause
      → why ≡ Turtle (path_of at.path name) cause → Stops v at name before why

stops : (v after : VaultState) (at : Place) (name : List ℕ) (before : List Triple) (why : LoadFault) → IsTrue v.tells → IsOfFiles why
    → IsRefused v after at name before why → Stops v at name before why
stops v after at name before (Missing path) known of x = gone (subst (λ (q : List ℕ). v.file q ≡ None) x.0 (x.2 known)) (ap Missing x.0)
stops v after at name before (ReadFailed path) known of x = absurd of
stops v after at name before (TooLong path) known of x =
    let file = x.2 known in large file.0 (subst (λ (q : List ℕ). v.file q ≡ Some file.0) x.0 file.1) file.2 (ap TooLong x.0)
stops v after at name before (Turtle path cause) known of x =
    let bytes = x.0 in
    let o = told (IsReadAs (beginning (file_iri at.number name) before) bytes) cause x.2.1 x.2.2 in
    unread bytes (subst (λ (q : List ℕ). v.file q ≡ Some bytes) x.2.0 (x.1.found known)) x.1.short o.0 o.1 cause o.2 (ap (λ (q : List ℕ). Turtle q cause) x.2.0)
stops v after at name before NoMemory known of x = absurd of

too_long : (found : Option (List ℕ)) (a b : List ℕ) → found ≡ Some a → found ≡ Some b → length a ≤ MOST_FILE_BYTES → MOST_FILE_BYTES < length b → ⊥
too_long found a b here there few much = let same = ap length (same_bytes found a b here there) in omega (arith, same)

-- a file is read in one way
one_reading : (v : VaultState) (at : Place) (name : List ℕ) (before : List Triple) (a b : List ℕ) (o p : Outcome)
    → v.file (path_of at.path name) ≡ Some a → v.file (path_of at.path name) ≡ Some b
    → IsReadAs (beginning (file_iri at.number name) before) a o → IsReadAs (beginning (file_iri at.number name) before) b p → o ≡ p
one_reading v at name before a b o p here there x y =
    let Read : List ℕ → Type 0 = λ bytes. IsReadAs (beginning (file_iri at.number name) before) bytes p in
    let same : b ≡ a = same_bytes (v.file (path_of at.path name)) b a there here in
    one_outcome (file_iri at.number name) before a o p x (subst Read same y)

one_cause : (o p : Outcome) (a b : TurtleFault) → o ≡ p → answer_of [] o ≡ Err a → answer_of [] p ≡ Err b → a ≡ b
one_cause o p a b e x y = let same : Err a ≡ Err b = sym x ∙ ap (answer_of []) e ∙ y in cc

one_stop : (v : VaultState) (at : Place) (name : List ℕ) (before : List Triple) (a b : LoadFault) → Stops v at name before a → Stops v at name before b → a ≡ b
one_stop v at name before a b (gone none e) (gone more f) = e ∙ sym f
one_stop v at name before a b (gone none e) (large bytes here much f) = absurd (nowhere _ bytes none here)
one_stop v at name before a b (gone none e) (unread bytes here few o read cause tells f) = absurd (nowhere _ bytes none here)
one_stop v at name before a b (large bytes here much e) (gone none f) = absurd (nowhere _ bytes none here)
one_stop v at name before a b (large bytes here much e) (large text there more f) = e ∙ sym f
one_stop v at name before a b (large bytes here much e) (unread text there few o read cause tells f) = absurd (too_long _ text bytes there here few much)
one_stop v at name before a b (unread bytes here few o read cause tells e) (gone none f) = absurd (nowhere _ bytes none here)
one_stop v at name before a b (unread bytes here few o read cause tells e) (large text there much f) = absurd (too_long _ bytes text here there few much)
one_stop v at name before a b (unread bytes here few o read cause tells e) (unread text there small p too other says f) =
    let same = one_cause o p cause other (one_reading v at name before bytes text o p here there read too) tells says in
    e ∙ ap (Turtle (path_of at.path name)) same ∙ sym f

same_rows : (v : VaultState) (at : Place) (name : List ℕ) (before a b : List Triple) → IsTrue v.tells
    → Adds v at name before a → Adds v at name before b → a ≡ b
same_rows v at name before a b known x y =
    let same : document a ≡ document b =
    one_reading v at name before x.bytes y.bytes (document a) (document b) (x.file.found known) (y.file.found known) x.read y.read in cc

no_document : (rows : List Triple) (o : Outcome) (cause : TurtleFault) → o ≡ document rows → answer_of [] o ≡ Err cause → ⊥
no_document rows o cause e tells = let wrong : answer_of [] (document rows) ≡ Err cause = ap (answer_of []) (sym e) ∙ tells in cc

stops_not_adds : (v : VaultState) (at : Place) (name : List ℕ) (before rows : List Triple) (why : LoadFault) → IsTrue v.tells
    → Stops v at name before why → Adds v at name before rows → ⊥
stops_not_adds v at name before rows why known (gone none e) y = nowhere _ y.bytes none (y.file.found known)
stops_not_adds v at name before rows why known (large bytes here much e) y = too_long _ y.bytes bytes (y.file.found known) here y.file.short much
stops_not_adds v at name before rows why known (unread bytes here few o read cause tells e) y =
    no_document rows o cause (one_reading v at name before bytes y.bytes o (document rows) here (y.file.found known) read y.read) tells

-- ---- files one after another

-- a file ends the loading with its fault, or it goes on after the file's rows
abbrev Goes : VaultState → Place → List ℕ → List Triple → (List Triple → Answer → Type 0) → Answer → Type 0
Goes v at name before On a =
    ((why : LoadFault) × (a ≡ Err why) × Stops v at name before why) ⊎ ((rows : List Triple) × Adds v at name before rows × On rows a)

one_way : (v : VaultState) (at : Place) (name : List ℕ) (before : List Triple) (On : List Triple → Answer → Type 0) (a b : Answer) → IsTrue v.tells
    → ((rows : List Triple) → On rows a → On rows b → a ≡ b) → Goes v at name before On a → Goes v at name before On b → a ≡ b
one_way v at name before On a b known on (inl x) (inl y) = x.1 ∙ ap Err (one_stop v at name before x.0 y.0 x.2 y.2) ∙ sym y.1
one_way v at name before On a b known on (inl x) (inr y) = absurd (stops_not_adds v at name before y.0 x.0 known x.2 y.1)
one_way v at name before On a b known on (inr x) (inl y) = absurd (stops_not_adds v at name before x.0 y.0 known y.2 x.1)
one_way v at name before On a b known on (inr x) (inr y) =
    let same : y.0 ≡ x.0 = same_rows v at name before y.0 x.0 known y.1 x.1 in
    on x.0 x.2 (subst (λ (rows : List Triple). On rows b) same y.2)

-- files are loaded up to the first that stops
abbrev Ends : VaultState → Place → List (List ℕ) → List Triple → Answer → Type 0
Ends v at [] before a = a ≡ Ok before
Ends v at (name ∷ names) before a = Goes v at name before (Ends v at names) a

one_end : (v : VaultState) (at : Place) (names : List (List ℕ)) (before : List Triple) (a b : Answer) → IsTrue v.tells
    → Ends v at names before a → Ends v at names before b → a ≡ b
one_end v at [] before a b known x y = x ∙ sym y
one_end v at (name ∷ names) before a b known x y =
    one_way v at name before (Ends v at names) a b known (λ rows. one_end v at names rows a b known) x y

-- the loading of a bundle: its manifest, then what that names
abbrev Loads : VaultState → Place → Answer → Type 0
Loads v at a = Goes v at manifest [] (λ first. Ends v at (files_named at.number first) first) a

one_loading : (v : VaultState) (at : Place) (a b : Answer) → IsTrue v.tells → Loads v at a → Loads v at b → a ≡ b
one_loading v at a b known =
    one_way v at manifest [] (λ first. Ends v at (files_named at.number first) first) a b known
    (λ first. one_end v at (files_named at.number first) first a b known)

all_read : (v : VaultState) (at : Place) (names : List (List ℕ)) (before rows : List Triple)
    → AddAll v at names before rows → Ends v at names before (Ok rows)
all_read v at [] before rows read = ap Ok read
all_read v at (name ∷ names) before rows read = inr (read.0, read.1, all_read v at names read.0 rows read.2)

-- files that were loaded lead to what comes after them
behind : (v : VaultState) (at : Place) (front back : List (List ℕ)) (before between : List Triple) (a : Answer)
    → AddAll v at front before between → Ends v at back between a → Ends v at (front ++ back) before a
behind v at [] back before between a e x = subst (λ (rows : List Triple). Ends v at back rows a) e x
behind v at (name ∷ front) back before between a read x = inr (read.0, read.1, behind v at front back read.0 between a read.2 x)

stops_behind : (v after : VaultState) (at : Place) (why : LoadFault) → IsTrue v.tells → IsOfFiles why → StopsBehind v after at why → Loads v at (Err why)
stops_behind v after at why known of x =
    let y = x.stops in
    let ends : Ends v at (y.name ∷ y.back) y.before (Err why) = inl (why, refl, stops v after at y.name y.before why known of y.refused) in
    let all = behind v at y.front (y.name ∷ y.back) x.first y.before (Err why) y.read ends in
    inr (x.first, x.named, subst (λ (names : List (List ℕ)). Ends v at names x.first (Err why)) (sym y.order) all)

unloaded : (v after : VaultState) (at : Place) (why : LoadFault) → IsTrue v.tells → IsOfFiles why
    → IsRefused v after at manifest [] why ⊎ StopsBehind v after at why → Loads v at (Err why)
unloaded v after at why known of (inl x) = inl (why, refl, stops v after at manifest [] why known of x)
unloaded v after at why known of (inr x) = stops_behind v after at why known of x

loads : (v : VaultState) (path : List ℕ) (number : ℕ) (a : Answer) → IsTrue v.tells → IsLoadedAs v path number a → Loads v (place number path) a
loads v path number (Ok rows) known x = inr (x.first, x.named, all_read v (place number path) (files_named number x.first) x.first rows x.all)
loads v path number (Err (Missing p)) known x = unloaded v x.1.0 (place number path) (Missing p) known x.0 x.1.1
loads v path number (Err (ReadFailed p)) known x = absurd x.0
loads v path number (Err (TooLong p)) known x = unloaded v x.1.0 (place number path) (TooLong p) known x.0 x.1.1
loads v path number (Err (Turtle p cause)) known x = unloaded v x.1.0 (place number path) (Turtle p cause) known x.0 x.1.1
loads v path number (Err NoMemory) known x = absurd x.0

pub one_answer : (v : VaultState) (path : List ℕ) (number : ℕ) (a b : Answer) → IsTrue v.tells
    → IsLoadedAs v path number a → IsLoadedAs v path number b → a ≡ b
one_answer v path number a b known x y = one_loading v (place number path) a b known (loads v path number a known x) (loads v path number b known y)
