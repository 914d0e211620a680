-- Files that are read one after another, and what is said of a vault from its first state on.
use Rattle.std.proofs.Common.{◌≡◌, ℕ, ◌+◌, ◌<◌, ◌≤◌, List, [], ◌∷◌, ◌++◌, length, take, drop, get_or, ◌⊎◌, Result, Ok, Err, IfErr, OnOk, refl, ap, sym, subst, ◌∙◌, arith, add-one, inl, inr}
use Rattle.std.proofs.lemmas.List.{take_more, take-append-drop}
use Rattle.std.proofs.Math.Seq.{drop-cons}
use Rattle.lv_outside.specs.Count.{Rose}
use Rattle.lv_outside.specs.World.{VaultState}
use Rattle.triple_store.specs.declared.term.Triple.{Triple}
use Rattle.turtle_document.specs.Answer.{Outcome}
use Rattle.turtle_read.specs.Answers.{Tells}
use Rattle.turtle_read.specs.declared.fault.TurtleFault.{TurtleFault}
use Rattle.turtle_read.specs.declared.fault.TurtleFault.TheVariants as turtle
use Rattle.session_load.specs.Names.{manifest, files_named}
use Rattle.session_load.specs.Bundle.{IsLater, IsFile, Place, Adds, AddAll, HasRows, cause, IsMisread, IsRefused, StopsAt, StopsBehind, IsUnloaded, place}
use Rattle.session_load.specs.declared.fault.LoadFault.{LoadFault}
use Rattle.session_load.specs.declared.fault.LoadFault.TheVariants.{Missing, ReadFailed, TooLong, Turtle, NoMemory}

-- the reader's fault is told
pub misread : (path : List ℕ) (Has : Outcome → Type 0) (fault : TurtleFault) → Tells Has fault → IsMisread path Has (cause path fault)
misread path Has (turtle.Lex f) h = (refl, (λ e. cc), h)
misread path Has (turtle.Syntax at) h = (refl, (λ e. cc), h)
misread path Has (turtle.NoPrefix at) h = (refl, (λ e. cc), h)
misread path Has (turtle.BadIri at) h = (refl, (λ e. cc), h)
misread path Has (turtle.Depth at) h = (refl, (λ e. cc), h)
misread path Has (turtle.StoreFull at) h = (refl, (λ e. cc), h)
misread path Has turtle.NoMemory h = tt

-- a vault is later than itself, and later than what an earlier one is later than
pub later-itself : (v : VaultState) → IsLater v v
later-itself v = record {
  known = λ t. t;
  files = λ t path. refl;
  faults = omega arith;
  absences = omega arith;
  longs = omega arith;
}

pub later-then : (v m v' : VaultState) → IsLater v m → IsLater m v' → IsLater v v'
later-then v m v' h k = record {
  known = λ t. k.known (h.known t);
  files = λ t path. k.files (h.known t) path ∙ h.files t path;
  faults = omega (arith, h.faults, k.faults);
  absences = omega (arith, h.absences, k.absences);
  longs = omega (arith, h.longs, k.longs);
}

-- what is said of a later vault is so of the first
rose-earlier : (a b c : ℕ) → a ≤ b → Rose b c → Rose a c
rose-earlier a b c h r = omega (arith, h, r)

file-earlier : (v m : VaultState) (path bytes : List ℕ) → IsLater v m → IsFile m path bytes → IsFile v path bytes
file-earlier v m path bytes h f = record { short = f.short; found = λ t. sym (h.files t path) ∙ f.found (h.known t) }

adds-earlier : (v m : VaultState) (at : Place) (name : List ℕ) (before after : List Triple) → IsLater v m → Adds m at name before after → Adds v at name before after
adds-earlier v m at name before after h a = record { bytes = a.bytes; file = file-earlier v m _ a.bytes h a.file; read = a.read }

pub all-earlier : (v m : VaultState) (at : Place) (names : List (List ℕ)) (before after : List Triple) → IsLater v m → AddAll m at names before after → AddAll v at names before after
all-earlier v m at [] before after h a = a
all-earlier v m at (name ∷ names) before after h a =
    (a.0, adds-earlier v m at name before a.0 h a.1, all-earlier v m at names a.0 after h a.2)

pub refused-earlier : (v m v' : VaultState) (at : Place) (name : List ℕ) (before : List Triple) (fault : LoadFault) → IsLater v m
    → IsRefused m v' at name before fault → IsRefused v v' at name before fault
refused-earlier v m v' at name before (Missing path) h r =
    (r.0, rose-earlier v.absences m.absences v'.absences h.absences r.1, λ t. sym (h.files t path) ∙ r.2 (h.known t))
refused-earlier v m v' at name before (ReadFailed path) h r = (r.0, rose-earlier v.faults m.faults v'.faults h.faults r.1)
refused-earlier v m v' at name before (TooLong path) h r = (
  r.0,
  rose-earlier v.longs m.longs v'.longs h.longs r.1,
  λ t. ((r.2 (h.known t)).0, sym (h.files t path) ∙ (r.2 (h.known t)).1, (r.2 (h.known t)).2),
)
refused-earlier v m v' at name before (Turtle path fault) h r = (r.0, file-earlier v m path r.0 h r.1, r.2)
refused-earlier v m v' at name before NoMemory h r = tt

-- one more file at the end
push : (v : VaultState) (at : Place) (names : List (List ℕ)) (name : List ℕ) (first before after : List Triple) → AddAll v at names first before
    → Adds v at name before after → AddAll v at (names ++ name ∷ []) first after
push v at [] name first before after all a = (after, subst (λ rows. Adds v at name rows after) all a, refl)
push v at (n ∷ names) name first before after all a = (all.0, all.1, push v at names name all.0 before after all.2 a)

pub adds-more : (v m : VaultState) (at : Place) (names : List (List ℕ)) (k : ℕ) (name : List ℕ) (first before after : List Triple) → IsLater v m
    → k < length names → name ≡ get_or names k name → AddAll v at (take k names) first before → Adds m at name before after
    → AddAll v at (take (k + 1) names) first after
adds-more v m at names k name first before after h within e all a =
    subst (λ front. AddAll v at front first after) (sym (take_more names k name within ∙ ap (λ n. take k names ++ n ∷ []) (sym e)))
    (push v at (take k names) name first before after all (adds-earlier v m at name before after h a))

parted : (names : List (List ℕ)) (k : ℕ) (name : List ℕ) → k < length names → names ≡ take k names ++ get_or names k name ∷ drop (k + 1) names
parted names k name within = sym (take-append-drop k names) ∙ ap (λ rest. take k names ++ rest) (drop-cons names k name within ∙ ap (λ n. get_or names k name ∷ drop n names) (sym (add-one k)))

pub stops : (v m v' : VaultState) (at : Place) (names : List (List ℕ)) (k : ℕ) (name : List ℕ) (first before : List Triple) (fault : LoadFault)
    → IsLater v m → k < length names → name ≡ get_or names k name → AddAll v at (take k names) first before → IsRefused m v' at name before fault
    → StopsAt v v' at names first fault
stops v m v' at names k name first before fault h within e all r = record {
  front = take k names;
  name = name;
  back = drop (k + 1) names;
  order = parted names k name within ∙ ap (λ n. take k names ++ n ∷ drop (k + 1) names) (sym e);
  before = before;
  read = all;
  refused = refused-earlier v m v' at name before fault h r;
}

-- the whole of a bundle: its manifest, then what that names
pub unloaded : (v v' : VaultState) (path : List ℕ) (number : ℕ) (fault : LoadFault)
    → IsRefused v v' (place number path) manifest [] fault ⊎ StopsBehind v v' (place number path) fault → IsUnloaded v v' path number fault
unloaded v v' path number (Missing p) h = h
unloaded v v' path number (ReadFailed p) h = h
unloaded v v' path number (TooLong p) h = h
unloaded v v' path number (Turtle p f) h = h
unloaded v v' path number NoMemory h = tt

pub unloaded-first : (v v' : VaultState) (path : List ℕ) (number : ℕ) (none : List Triple) (fault : LoadFault) → none ≡ []
    → IsRefused v v' (place number path) manifest none fault → IsUnloaded v v' path number fault
unloaded-first v v' path number none fault e r =
    unloaded v v' path number fault (inl (subst (λ (before : List Triple). IsRefused v v' (place number path) manifest before fault) e r))

stops-earlier : (v m v' : VaultState) (at : Place) (names : List (List ℕ)) (first : List Triple) (fault : LoadFault) → IsLater v m
    → StopsAt m v' at names first fault → StopsAt v v' at names first fault
stops-earlier v m v' at names first fault h s = record {
  front = s.front;
  name = s.name;
  back = s.back;
  order = s.order;
  before = s.before;
  read = all-earlier v m at s.front first s.before h s.read;
  refused = refused-earlier v m v' at s.name s.before fault h s.refused;
}

unloaded-behind : (v m v' : VaultState) (path : List ℕ) (number : ℕ) (names : List (List ℕ)) (first : List Triple) (fault : LoadFault) → IsLater v m
    → Adds v (place number path) manifest [] first → names ≡ files_named number first → StopsAt m v' (place number path) names first fault
    → IsUnloaded v v' path number fault
unloaded-behind v m v' path number names first fault h named e s =
    unloaded v v' path number fault
    (inr (record {
      first = first;
      named = named;
      stops = subst (λ ns. StopsAt v v' (place number path) ns first fault) e (stops-earlier v m v' (place number path) names first fault h s);
    }))

has-rows : (v m : VaultState) (path : List ℕ) (number : ℕ) (names : List (List ℕ)) (first rows : List Triple) → IsLater v m
    → Adds v (place number path) manifest [] first → names ≡ files_named number first → AddAll m (place number path) names first rows
    → HasRows v (place number path) rows
has-rows v m path number names first rows h named e all = record {
  first = first;
  named = named;
  all = subst (λ ns. AddAll v (place number path) ns first rows) e (all-earlier v m (place number path) names first rows h all);
}

-- the manifest was read, after no rows, and names these files: what comes of the others is what comes of the bundle
pub record IsRead (v m : VaultState) (path : List ℕ) (number : ℕ) (names : List (List ℕ)) (none first : List Triple) : Type 0 where
  pub later : IsLater v m
  pub begins : none ≡ []
  pub manifest : Adds v (place number path) manifest none first
  pub named : names ≡ files_named number first

of_none : (v m : VaultState) (path : List ℕ) (number : ℕ) (names : List (List ℕ)) (none first : List Triple) → IsRead v m path number names none first
    → Adds v (place number path) manifest [] first
of_none v m path number names none first x = subst (λ (before : List Triple). Adds v (place number path) manifest before first) x.begins x.manifest

pub rows-of : (v m : VaultState) (path : List ℕ) (number : ℕ) (names : List (List ℕ)) (none first rows : List Triple) (r : Result (Unit {0}) LoadFault)
    → IsRead v m path number names none first → OnOk r (AddAll m (place number path) names first rows) → OnOk r (HasRows v (place number path) rows)
rows-of v m path number names none first rows (Ok done) x all =
    has-rows v m path number names first rows x.later (of_none v m path number names none first x) x.named all
rows-of v m path number names none first rows (Err fault) x all = tt

pub fault-of : (v m v' : VaultState) (path : List ℕ) (number : ℕ) (names : List (List ℕ)) (none first : List Triple) (r : Result (Unit {0}) LoadFault)
    → IsRead v m path number names none first → IfErr r (StopsAt m v' (place number path) names first) → IfErr r (IsUnloaded v v' path number)
fault-of v m v' path number names none first (Ok done) x stops = tt
fault-of v m v' path number names none first (Err fault) x stops =
    unloaded-behind v m v' path number names first fault x.later (of_none v m path number names none first x) x.named stops
