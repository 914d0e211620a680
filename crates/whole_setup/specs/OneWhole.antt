-- What the files of a known vault and the documents of codes make of a session and its states: one end.
use Rattle.std.specs.Prelude.{◌≡◌, ℕ, IsTrue, List, Option, Ok, Err}
use Rattle.lv_outside.specs.World.{VaultState}
use Rattle.session_setup.specs.OneSetup as setup
use Rattle.session_states.specs.Answer.{IsOfStates}
use Rattle.whole_setup.specs.Whole.{End, LoadsWholeBytes, LoadsWholeFile}
use Rattle.whole_setup.specs.declared.fault.WholeFault.{WholeFault}
use Rattle.whole_setup.specs.declared.fault.WholeFault.TheVariants as whole

-- a fault that the files give: no failed read
abbrev pub IsOfFiles : WholeFault → Type 0
IsOfFiles (whole.Setup fault) = setup.IsOfFiles fault
IsOfFiles (whole.States fault) = IsOfStates fault

-- an end that the files give
abbrev pub IsGiven : End → Type 0
IsGiven (Ok made) = Unit {0}
IsGiven (Err fault) = IsOfFiles fault

-- work has at most one end that files give
abbrev pub HasOneEnd : (End → Type 0) → Type 0
HasOneEnd Work = (a b : End) → IsGiven a → IsGiven b → Work a → Work b → a ≡ b

-- and at least one
abbrev pub HasSomeEnd : (End → Type 0) → Type 0
HasSomeEnd Work = (end : End) × IsGiven end × Work end

-- the files of a known vault and the documents of codes give a session and its states at most one end
abbrev pub HasOneWhole : Type 0
HasOneWhole = (v : VaultState) (text : List ℕ → Option (List ℕ)) (path : List ℕ) (urids : List (List ℕ)) → IsTrue v.tells
    → HasOneEnd (LoadsWholeFile v text path urids)

abbrev pub HasOneWholeOfBytes : Type 0
HasOneWholeOfBytes = (v : VaultState) (text : List ℕ → Option (List ℕ)) (bytes : List ℕ) (urids : List (List ℕ)) → IsTrue v.tells
    → HasOneEnd (LoadsWholeBytes v text bytes urids)

-- and at least one
abbrev pub HasSomeWhole : Type 0
HasSomeWhole = (v : VaultState) (text : List ℕ → Option (List ℕ)) (path : List ℕ) (urids : List (List ℕ)) → IsTrue v.tells
    → HasSomeEnd (LoadsWholeFile v text path urids)

abbrev pub HasSomeWholeOfBytes : Type 0
HasSomeWholeOfBytes = (v : VaultState) (text : List ℕ → Option (List ℕ)) (bytes : List ℕ) (urids : List (List ℕ)) → IsTrue v.tells
    → HasSomeEnd (LoadsWholeBytes v text bytes urids)
