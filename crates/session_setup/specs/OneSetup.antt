-- What the files of a known vault and the documents of codes make of a session: one end.
use Rattle.std.specs.Prelude.{◌≡◌, ℕ, IsTrue, List, Option, Result, Ok, Err}
use Rattle.lv_outside.specs.World.{VaultState}
use Rattle.session_load.specs.declared.fault.LoadFault.TheVariants.{ReadFailed}
use Rattle.session_setup.specs.declared.fault.SetupFault.{SetupFault}
use Rattle.session_setup.specs.declared.fault.SetupFault.TheVariants.{Load}
use Rattle.session_setup.specs.declared.loaded.Loaded.{Loaded}
use Rattle.session_setup.specs.Loading.{LoadsBytes, LoadsFile}

-- a fault that the files give: no failed read
abbrev pub IsOfFiles : SetupFault → Type 0
IsOfFiles (Load (ReadFailed path)) = ⊥
IsOfFiles fault = Unit {0}

-- an end that the files give
abbrev pub IsGiven : {A : Type 0} → Result A SetupFault → Type 0
IsGiven (Ok value) = Unit {0}
IsGiven (Err fault) = IsOfFiles fault

-- work has at most one end that files give
abbrev pub HasOneEnd : (Result Loaded SetupFault → Type 0) → Type 0
HasOneEnd Work = (a b : Result Loaded SetupFault) → IsGiven a → IsGiven b → Work a → Work b → a ≡ b

-- and at least one
abbrev pub HasSomeEnd : (Result Loaded SetupFault → Type 0) → Type 0
HasSomeEnd Work = (end : Result Loaded SetupFault) × IsGiven end × Work end

-- the files of a known vault and the documents of codes give a session at most one end
abbrev pub HasOneSetup : Type 0
HasOneSetup = (v : VaultState) (text : List ℕ → Option (List ℕ)) (path : List ℕ) → IsTrue v.tells → HasOneEnd (LoadsFile v text path)

abbrev pub HasOneSetupOfBytes : Type 0
HasOneSetupOfBytes = (v : VaultState) (text : List ℕ → Option (List ℕ)) (bytes : List ℕ) → IsTrue v.tells → HasOneEnd (LoadsBytes v text bytes)

-- and at least one
abbrev pub HasSomeSetup : Type 0
HasSomeSetup = (v : VaultState) (text : List ℕ → Option (List ℕ)) (path : List ℕ) → IsTrue v.tells → HasSomeEnd (LoadsFile v text path)

abbrev pub HasSomeSetupOfBytes : Type 0
HasSomeSetupOfBytes = (v : VaultState) (text : List ℕ → Option (List ℕ)) (bytes : List ℕ) → IsTrue v.tells → HasSomeEnd (LoadsBytes v text bytes)
