-- State files that are read one after another, and what is said of a vault from its first state on.
use Rattle.std.proofs.Common.{◌≡◌, ℕ, zero, suc, ◌+◌, ◌<◌, ◌≤◌, List, [], ◌∷◌, ◌++◌, length, map, get_or, Result, Ok, Err, IfOk, IfErr, refl, ap, sym, subst, ◌∙◌, arith, add-one}
use Rattle.std.proofs.lemmas.List.{get_or_default}
use Rattle.lv_outside.specs.Count.{Rose}
use Rattle.lv_outside.specs.World.{VaultState}
use Rattle.session_load.specs.Bundle.{IsLater, cause, IsMisread}
use Rattle.session_load.specs.declared.fault.LoadFault.{LoadFault}
use Rattle.session_load.specs.declared.fault.LoadFault.TheVariants.{Missing, ReadFailed, TooLong, Turtle, NoMemory}
use Rattle.session_load.proofs.Loading.{misread}
use Rattle.session_script.specs.declared.session.Session.{Session}
use Rattle.state_file.specs.declared.saved.Saved.{Saved}
use Rattle.state_store.specs.declared.prop.Prop.{Prop}
use Rattle.triple_store.specs.declared.term.Triple.{Triple}
use Rattle.turtle_document.specs.Answer.{IsReadAs}
use Rattle.turtle_document.specs.Meaning.{beginning}
use Rattle.turtle_read.specs.Answers.{Tells}
use Rattle.turtle_read.specs.declared.fault.TurtleFault.{TurtleFault}
use Rattle.session_states.specs.Answer.{restored, paths_of, HasStates, HasNoStates}
use Rattle.session_states.specs.File.{base_of, Reads, IsFile, HasRows, IsUnread, GivesStates, IsJudged, IsRefused}
use Rattle.session_states.specs.Files.{path_at, GiveStates, StopsAt}
use Rattle.session_states.specs.Restores.{restores_of, paths_in}
use Rattle.session_states.specs.Rules.{ArePassed, IsCause}
use Rattle.session_states.specs.declared.fault.StatesFault.{StatesFault}
use Rattle.session_states.specs.declared.fault.StatesFault.TheVariants.{Load, Broken, UridFull}
use Rattle.session_states.specs.declared.restore.Restore.{Restore}

-- ---- one file

-- the reader's fault is told of the file
pub misread_at : (path : List ℕ) (number : ℕ) (bytes base : List ℕ) (rows : List Triple) (fault : TurtleFault) (made : LoadFault) → base ≡ base_of number
    → rows ≡ [] → Tells (IsReadAs (beginning base rows) bytes) fault → made ≡ cause path fault → IsMisread path (Reads number bytes) made
misread_at path number bytes base rows fault made b r h e =
    let begun = subst (λ (rs : List Triple). Tells (IsReadAs (beginning base rs) bytes) fault) r h in
    let based = subst (λ (from : List ℕ). Tells (IsReadAs (beginning from []) bytes) fault) b begun in
    subst (IsMisread path (Reads number bytes)) (sym e) (misread path (Reads number bytes) fault based)

-- rows that are judged are those of the file
pub gives : (v : VaultState) (restores : List Restore) (number : ℕ) (path : List ℕ) (rows : List Triple) (urids after : List (List ℕ)) (r : Result (List Saved) StatesFault)
    → HasRows v number path rows → IfOk r (λ saves. ArePassed path restores rows urids saves after) → IfOk r (λ saves. GivesStates v restores number path urids saves after)
gives v restores number path rows urids after (Ok saves) has h = record { rows = rows; has = has; passed = h }
gives v restores number path rows urids after (Err fault) has h = tt

judged : (v v' : VaultState) (restores : List Restore) (number : ℕ) (path : List ℕ) (rows : List Triple) (urids : List (List ℕ)) (fault : StatesFault)
    → HasRows v number path rows → IsCause path restores rows urids fault → IsRefused v v' restores number path urids fault
judged v v' restores number path rows urids (Load fault) has h = subst (IsUnread v v' number path) (sym h) tt
judged v v' restores number path rows urids (Broken at rule) has h = record { rows = rows; has = has; cause = h }
judged v v' restores number path rows urids UridFull has h = record { rows = rows; has = has; cause = h }

pub refuses : (v v' : VaultState) (restores : List Restore) (number : ℕ) (path : List ℕ) (rows : List Triple) (urids : List (List ℕ)) (r : Result (List Saved) StatesFault)
    → HasRows v number path rows → IfErr r (IsCause path restores rows urids) → IfErr r (IsRefused v v' restores number path urids)
refuses v v' restores number path rows urids (Ok saves) has h = tt
refuses v v' restores number path rows urids (Err fault) has h = judged v v' restores number path rows urids fault has h

-- ---- what is said of a later vault is so of the first

rose-earlier : (a b c : ℕ) → a ≤ b → Rose b c → Rose a c
rose-earlier a b c h r = omega (arith, h, r)

file-earlier : (v m : VaultState) (path bytes : List ℕ) → IsLater v m → IsFile m path bytes → IsFile v path bytes
file-earlier v m path bytes h f = record { short = f.short; found = λ t. sym (h.files t path) ∙ f.found (h.known t) }

rows-earlier : (v m : VaultState) (number : ℕ) (path : List ℕ) (rows : List Triple) → IsLater v m → HasRows m number path rows → HasRows v number path rows
rows-earlier v m number path rows h x = record { bytes = x.bytes; file = file-earlier v m path x.bytes h x.file; read = x.read }

gives-earlier : (v m : VaultState) (restores : List Restore) (number : ℕ) (path : List ℕ) (urids : List (List ℕ)) (saves : List Saved) (after : List (List ℕ))
    → IsLater v m → GivesStates m restores number path urids saves after → GivesStates v restores number path urids saves after
gives-earlier v m restores number path urids saves after h x =
    record { rows = x.rows; has = rows-earlier v m number path x.rows h x.has; passed = x.passed }

unread-earlier : (v m v' : VaultState) (number : ℕ) (path : List ℕ) (fault : LoadFault) → IsLater v m → IsUnread m v' number path fault → IsUnread v v' number path fault
unread-earlier v m v' number path (Missing at) h r =
    (r.0, rose-earlier v.absences m.absences v'.absences h.absences r.1, λ t. sym (h.files t path) ∙ r.2 (h.known t))
unread-earlier v m v' number path (ReadFailed at) h r = (r.0, rose-earlier v.faults m.faults v'.faults h.faults r.1)
unread-earlier v m v' number path (TooLong at) h r = (
  r.0,
  rose-earlier v.longs m.longs v'.longs h.longs r.1,
  λ t. ((r.2 (h.known t)).0, sym (h.files t path) ∙ (r.2 (h.known t)).1, (r.2 (h.known t)).2),
)
unread-earlier v m v' number path (Turtle at fault) h r = (r.0, file-earlier v m path r.0 h r.1, r.2)
unread-earlier v m v' number path NoMemory h r = tt

judged-earlier : (v m : VaultState) (restores : List Restore) (number : ℕ) (path : List ℕ) (urids : List (List ℕ)) (fault : StatesFault) → IsLater v m
    → IsJudged m restores number path urids fault → IsJudged v restores number path urids fault
judged-earlier v m restores number path urids fault h x =
    record { rows = x.rows; has = rows-earlier v m number path x.rows h x.has; cause = x.cause }

refused-earlier : (v m v' : VaultState) (restores : List Restore) (number : ℕ) (path : List ℕ) (urids : List (List ℕ)) (fault : StatesFault) → IsLater v m
    → IsRefused m v' restores number path urids fault → IsRefused v v' restores number path urids fault
refused-earlier v m v' restores number path urids (Load fault) h x = unread-earlier v m v' number path fault h x
refused-earlier v m v' restores number path urids (Broken at rule) h x = judged-earlier v m restores number path urids (Broken at rule) h x
refused-earlier v m v' restores number path urids UridFull h x = judged-earlier v m restores number path urids UridFull h x

-- ---- files one after another

-- the files so far were read from a vault that is now a later one, and here is the next path
pub record AreSoFar (v m : VaultState) (restores : List Restore) (paths urids : List (List ℕ)) (number : ℕ) (path : List ℕ) (files : List (List Saved)) (between : List (List ℕ)) : Type 0 where
  pub later : IsLater v m
  pub within : number < length paths
  pub next : path ≡ get_or paths number path
  pub before : GiveStates v restores paths urids number files between

pub next_states : (v m : VaultState) (restores : List Restore) (paths urids : List (List ℕ)) (number : ℕ) (path : List ℕ) (files more : List (List Saved)) (between after : List (List ℕ)) (saves : List Saved)
    → AreSoFar v m restores paths urids number path files between → GivesStates m restores number path between saves after → more ≡ files ++ saves ∷ []
    → GiveStates v restores paths urids (number + 1) more after
next_states v m restores paths urids number path files more between after saves x h e =
    let here = x.next ∙ get_or_default paths number path [] x.within in
    let file = gives-earlier v m restores number path between saves after x.later h in
    subst (λ (n : ℕ). GiveStates v restores paths urids n more after) (sym (add-one number))
    (files, saves, between, x.before, subst (λ (p : List ℕ). GivesStates v restores number p between saves after) here file, e)

pub stops : (v m v' : VaultState) (restores : List Restore) (paths urids : List (List ℕ)) (number : ℕ) (path : List ℕ) (files : List (List Saved)) (between : List (List ℕ)) (fault : StatesFault)
    → AreSoFar v m restores paths urids number path files between → IsRefused m v' restores number path between fault → StopsAt v v' restores paths urids fault
stops v m v' restores paths urids number path files between fault x h = record {
  number = number;
  within = x.within;
  files = files;
  between = between;
  before = x.before;
  refused = subst (λ (p : List ℕ). IsRefused v v' restores number p between fault) (x.next ∙ get_or_default paths number path [] x.within)
      (refused-earlier v m v' restores number path between fault x.later h);
}

-- want of memory can stop all at any file
pub starved : (v v' : VaultState) (restores : List Restore) (paths urids : List (List ℕ)) (number : ℕ) (files : List (List Saved)) (between : List (List ℕ))
    → number < length paths → GiveStates v restores paths urids number files between → StopsAt v v' restores paths urids (Load NoMemory)
starved v v' restores paths urids number files between within before =
    record { number = number; within = within; files = files; between = between; before = before; refused = tt }

-- ---- all files

pub no_states : (v v' : VaultState) (session : Session) (urids : List (List ℕ)) (fault : StatesFault)
    → StopsAt v v' (restores_of session) (paths_of session) urids fault → HasNoStates v v' session urids fault
no_states v v' session urids (Load (Missing at)) h = h
no_states v v' session urids (Load (ReadFailed at)) h = h
no_states v v' session urids (Load (TooLong at)) h = h
no_states v v' session urids (Load (Turtle at why)) h = h
no_states v v' session urids (Load NoMemory) h = tt
no_states v v' session urids (Broken at rule) h = h
no_states v v' session urids UridFull h = h

pub no_states_for : (v v' : VaultState) (session : Session) (restores : List Restore) (paths urids : List (List ℕ)) (fault : StatesFault)
    → restores ≡ restores_of session → paths ≡ paths_of session → StopsAt v v' restores paths urids fault → HasNoStates v v' session urids fault
no_states_for v v' session restores paths urids fault r p h =
    no_states v v' session urids fault
    (subst (λ (rs : List Restore). StopsAt v v' rs (paths_of session) urids fault) r (subst (λ (ps : List (List ℕ)). StopsAt v v' restores ps urids fault) p h))

pub has_states : (v : VaultState) (session : Session) (restores : List Restore) (paths urids after : List (List ℕ)) (files : List (List Saved)) (states : List (List (ℕ × Prop)))
    → restores ≡ restores_of session → paths ≡ paths_of session → GiveStates v restores paths urids (length paths) files after
    → states ≡ map (restored paths files) restores → HasStates v session urids states after
has_states v session restores paths urids after files states r p read e = record {
  files = files;
  read = subst (λ (rs : List Restore). GiveStates v rs (paths_of session) urids (length (paths_of session)) files after) r
      (subst (λ (ps : List (List ℕ)). GiveStates v restores ps urids (length ps) files after) p read);
  given = e ∙ ap (λ (ps : List (List ℕ)). map (restored ps files) restores) p ∙ ap (λ (rs : List Restore). map (restored (paths_of session) files) rs) r;
}

-- ---- all files of a vault that is a later one

give-earlier : (v m : VaultState) (restores : List Restore) (paths urids : List (List ℕ)) (number : ℕ) (files : List (List Saved)) (after : List (List ℕ)) → IsLater v m
    → GiveStates m restores paths urids number files after → GiveStates v restores paths urids number files after
give-earlier v m restores paths urids zero files after h x = x
give-earlier v m restores paths urids (suc number) files after h x = (
  x.0,
  x.1,
  x.2,
  give-earlier v m restores paths urids number x.0 x.2 h x.3,
  gives-earlier v m restores number (path_at paths number) x.2 x.1 after h x.4,
  x.5,
)

stops-earlier : (v m v' : VaultState) (restores : List Restore) (paths urids : List (List ℕ)) (fault : StatesFault) → IsLater v m
    → StopsAt m v' restores paths urids fault → StopsAt v v' restores paths urids fault
stops-earlier v m v' restores paths urids fault h s = record {
  number = s.number;
  within = s.within;
  files = s.files;
  between = s.between;
  before = give-earlier v m restores paths urids s.number s.files s.between h s.before;
  refused = refused-earlier v m v' restores s.number (path_at paths s.number) s.between fault h s.refused;
}

pub states-earlier : (v m : VaultState) (session : Session) (urids : List (List ℕ)) (states : List (List (ℕ × Prop))) (after : List (List ℕ)) → IsLater v m
    → HasStates m session urids states after → HasStates v session urids states after
states-earlier v m session urids states after h x = record {
  files = x.files;
  read = give-earlier v m (restores_of session) (paths_of session) urids (length (paths_of session)) x.files after h x.read;
  given = x.given;
}

pub no-states-earlier : (v m v' : VaultState) (session : Session) (urids : List (List ℕ)) (fault : StatesFault) → IsLater v m
    → HasNoStates m v' session urids fault → HasNoStates v v' session urids fault
no-states-earlier v m v' session urids (Load (Missing at)) h x = stops-earlier v m v' (restores_of session) (paths_of session) urids (Load (Missing at)) h x
no-states-earlier v m v' session urids (Load (ReadFailed at)) h x = stops-earlier v m v' (restores_of session) (paths_of session) urids (Load (ReadFailed at)) h x
no-states-earlier v m v' session urids (Load (TooLong at)) h x = stops-earlier v m v' (restores_of session) (paths_of session) urids (Load (TooLong at)) h x
no-states-earlier v m v' session urids (Load (Turtle at why)) h x = stops-earlier v m v' (restores_of session) (paths_of session) urids (Load (Turtle at why)) h x
no-states-earlier v m v' session urids (Load NoMemory) h x = tt
no-states-earlier v m v' session urids (Broken at rule) h x = stops-earlier v m v' (restores_of session) (paths_of session) urids (Broken at rule) h x
no-states-earlier v m v' session urids UridFull h x = stops-earlier v m v' (restores_of session) (paths_of session) urids UridFull h x
