-- The files of a known vault give a session and its states one end.
use Rattle.std.proofs.Common.{◌≡◌, ◌≢◌, ℕ, List, [], Option, Result, Ok, Err, IsTrue, refl, sym, ◌∙◌, ap, inl, inr}
use Rattle.lv_outside.specs.World.{VaultState}
use Rattle.state_store.specs.declared.prop.Prop.{Prop}
use Rattle.graph_order.specs.declared.setup.Setup.{Setup}
use Rattle.session_load.specs.declared.fault.LoadFault.TheVariants.{Missing, ReadFailed, TooLong, Turtle, NoMemory}
use Rattle.session_script.specs.declared.session.Session.{Session}
use Rattle.session_setup.specs.Loaded.{setup_of}
use Rattle.session_setup.specs.Loading.{LoadsBytes, LoadsFile}
use Rattle.session_setup.specs.OneSetup as setup
use Rattle.session_setup.specs.Steps.{Then}
use Rattle.session_setup.specs.declared.fault.SetupFault.{SetupFault}
use Rattle.session_setup.specs.declared.loaded.Loaded.{Loaded}
use Rattle.session_setup.proofs.Steps.{Fine, HasOne, HasSome, one-then, some-then}
use Rattle.session_setup.proofs.OneAnswer.{one_setup, one_setup_of_bytes}
use Rattle.session_setup.proofs.SomeAnswer.{some_setup, some_setup_of_bytes}
use Rattle.session_states.specs.Answer.{HasStates, HasNoStates, IsOfStates, Answer, IsAnswer}
use Rattle.session_states.specs.declared.fault.StatesFault.{StatesFault}
use Rattle.session_states.specs.declared.fault.StatesFault.TheVariants as states_fault
use Rattle.session_states.proofs.OneStates.{one_answer}
use Rattle.session_states.proofs.SomeStates.{some_answer}
use Rattle.whole_setup.specs.Whole.{End, Told, Completes, LoadsWholeBytes, LoadsWholeFile}
use Rattle.whole_setup.specs.OneWhole.{IsOfFiles, IsGiven, HasOneEnd, HasSomeEnd, HasOneWhole, HasOneWholeOfBytes, HasSomeWhole, HasSomeWholeOfBytes}
use Rattle.whole_setup.specs.declared.fault.WholeFault.{WholeFault}
use Rattle.whole_setup.specs.declared.fault.WholeFault.TheVariants as whole

-- ---- what comes before the states

one-told : (Work : Result Loaded SetupFault → Type 0) → setup.HasOneEnd Work → HasOne IsOfFiles (Told Work)
one-told Work one (Ok a) (Ok b) f g x y = let same = one (Ok a) (Ok b) tt tt x y in cc
one-told Work one (Ok a) (Err (whole.Setup b)) f g x y = let same = one (Ok a) (Err b) tt g x y in cc
one-told Work one (Ok a) (Err (whole.States b)) f g x y = absurd y
one-told Work one (Err (whole.Setup a)) (Ok b) f g x y = let same = one (Err a) (Ok b) f tt x y in cc
one-told Work one (Err (whole.Setup a)) (Err (whole.Setup b)) f g x y = let same = one (Err a) (Err b) f g x y in cc
one-told Work one (Err (whole.Setup a)) (Err (whole.States b)) f g x y = absurd y
one-told Work one (Err (whole.States a)) b f g x y = absurd x

some-told : (Work : Result Loaded SetupFault → Type 0) → setup.HasSomeEnd Work → HasSome IsOfFiles (Told Work)
some-told Work (Ok made, f, x) = (Ok made, tt, x)
some-told Work (Err fault, f, x) = (Err (whole.Setup fault), f, x)

-- ---- the states

abbrev answered : List (List (ℕ × Prop)) → List (List ℕ) → Answer
answered states after = Ok (states, after)

abbrev states-in : Answer → List (List (ℕ × Prop))
states-in (Ok (states, after)) = states
states-in (Err fault) = []

abbrev urids-in : Answer → List (List ℕ)
urids-in (Ok (states, after)) = after
urids-in (Err fault) = []

abbrev ended : Setup → List (List ℕ) → End
ended setup after = Ok (setup, after)

one-completed : (v : VaultState) (urids : List (List ℕ)) (made : Loaded) → IsTrue v.tells → HasOne IsOfFiles (Completes v urids made)
one-completed v urids made known (Ok (a, after)) (Ok (b, then)) f g x y =
    let same : answered x.0 after ≡ answered y.0 then = one_answer v made.session urids (answered x.0 after) (answered y.0 then) known x.1 y.1 in
    ap (λ one. ended one after) (x.2 ∙ ap (λ states. setup_of made states) (ap states-in same) ∙ sym y.2) ∙ ap (λ u. ended b u) (ap urids-in same)
one-completed v urids made known (Ok (a, after)) (Err (whole.States b)) f g x y =
    let same = one_answer v made.session urids (Ok (x.0, after)) (Err b) known x.1 (g, y.1) in cc
one-completed v urids made known (Ok (a, after)) (Err (whole.Setup b)) f g x y = absurd y
one-completed v urids made known (Err (whole.States a)) (Ok (b, then)) f g x y =
    let same = one_answer v made.session urids (Err a) (Ok (y.0, then)) known (f, x.1) y.1 in cc
one-completed v urids made known (Err (whole.States a)) (Err (whole.States b)) f g x y =
    let same = one_answer v made.session urids (Err a) (Err b) known (f, x.1) (g, y.1) in cc
one-completed v urids made known (Err (whole.States a)) (Err (whole.Setup b)) f g x y = absurd y
one-completed v urids made known (Err (whole.Setup a)) b f g x y = absurd x

-- what files give isn't want of memory
not-memory : (fault : StatesFault) → IsOfStates fault → fault ≢ states_fault.Load NoMemory
not-memory (states_fault.Load (Missing at)) f = λ e. cc
not-memory (states_fault.Load (ReadFailed at)) f = absurd f
not-memory (states_fault.Load (TooLong at)) f = λ e. cc
not-memory (states_fault.Load (Turtle at why)) f = λ e. cc
not-memory (states_fault.Load NoMemory) f = absurd f
not-memory (states_fault.Broken at rule) f = λ e. cc
not-memory states_fault.UridFull f = λ e. cc

by-states : (v : VaultState) (urids : List (List ℕ)) (made : Loaded) → (a : Answer) × IsAnswer v made.session urids a → HasSome IsOfFiles (Completes v urids made)
by-states v urids made (Ok (states, after), x) = (Ok (setup_of made states, after), tt, (states, x, refl))
by-states v urids made (Err fault, x) = (Err (whole.States fault), x.0, (not-memory fault x.0, x.1))

-- ---- the whole

one-whole : (v : VaultState) (urids : List (List ℕ)) (Work : Result Loaded SetupFault → Type 0) → IsTrue v.tells → setup.HasOneEnd Work
    → HasOne IsOfFiles (Then (Told Work) (Completes v urids))
one-whole v urids Work known one =
    one-then IsOfFiles (Told Work) (Completes v urids) (one-told Work one) (λ made given. one-completed v urids made known)

some-whole : (v : VaultState) (urids : List (List ℕ)) (Work : Result Loaded SetupFault → Type 0) → IsTrue v.tells → setup.HasSomeEnd Work
    → HasSome IsOfFiles (Then (Told Work) (Completes v urids))
some-whole v urids Work known some =
    some-then IsOfFiles (Told Work) (Completes v urids) (some-told Work some)
    (λ made given. by-states v urids made (some_answer v made.session urids known))

fine : (end : End) → IsGiven end → Fine IsOfFiles end
fine (Ok made) g = tt
fine (Err fault) g = g

given : (end : End) → Fine IsOfFiles end → IsGiven end
given (Ok made) f = tt
given (Err fault) f = f

one-end : (Work : End → Type 0) → HasOne IsOfFiles Work → HasOneEnd Work
one-end Work one a b f g x y = one a b (fine a f) (fine b g) x y

some-end : (Work : End → Type 0) → HasSome IsOfFiles Work → HasSomeEnd Work
some-end Work some = (some.0, given some.0 some.1, some.2)

pub one_whole : HasOneWhole
one_whole v text path urids known =
    one-end (LoadsWholeFile v text path urids) (one-whole v urids (LoadsFile v text path) known (one_setup v text path known))

pub one_whole_of_bytes : HasOneWholeOfBytes
one_whole_of_bytes v text bytes urids known =
    one-end (LoadsWholeBytes v text bytes urids) (one-whole v urids (LoadsBytes v text bytes) known (one_setup_of_bytes v text bytes known))

pub some_whole : HasSomeWhole
some_whole v text path urids known =
    some-end (LoadsWholeFile v text path urids) (some-whole v urids (LoadsFile v text path) known (some_setup v text path known))

pub some_whole_of_bytes : HasSomeWholeOfBytes
some_whole_of_bytes v text bytes urids known =
    some-end (LoadsWholeBytes v text bytes urids) (some-whole v urids (LoadsBytes v text bytes) known (some_setup_of_bytes v text bytes known))
