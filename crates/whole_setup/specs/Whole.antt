-- What a session file, its bundles and its state files say, by what the files hold alone: a setup with the states of its restores, and the
-- URIs that then have numbers, or the first fault in the order of work. All else comes before the states. A read may fail at any time.
use Rattle.std.specs.Prelude.{◌≡◌, ◌≢◌, ◌⊎◌, ℕ, List, Option, Result, Ok, Err}
use Rattle.lv_outside.specs.World.{VaultState}
use Rattle.state_store.specs.declared.prop.Prop.{Prop}
use Rattle.session_load.specs.declared.fault.LoadFault.TheVariants.{NoMemory}
use Rattle.graph_order.specs.declared.setup.Setup.{Setup}
use Rattle.session_setup.specs.Faults as setup
use Rattle.session_setup.specs.Loaded.{setup_of}
use Rattle.session_setup.specs.Loading.{LoadsBytes, LoadsFile}
use Rattle.session_setup.specs.Steps.{Then}
use Rattle.session_setup.specs.declared.fault.SetupFault.{SetupFault}
use Rattle.session_setup.specs.declared.fault.SetupFault.TheVariants as setup_fault
use Rattle.session_setup.specs.declared.loaded.Loaded.{Loaded}
use Rattle.session_states.specs.Answer.{HasStates, HasNoStates}
use Rattle.session_states.specs.declared.fault.StatesFault.{StatesFault}
use Rattle.session_states.specs.declared.fault.StatesFault.TheVariants as states_fault
use Rattle.whole_setup.specs.declared.fault.WholeFault.{WholeFault}
use Rattle.whole_setup.specs.declared.fault.WholeFault.TheVariants as whole

-- a setup with the URIs that have numbers, or a fault
abbrev pub End : Type 0
End = Result (Setup × List (List ℕ)) WholeFault

-- work that comes before the states
abbrev pub Told : (Result Loaded SetupFault → Type 0) → Result Loaded WholeFault → Type 0
Told Work (Ok made) = Work (Ok made)
Told Work (Err (whole.Setup fault)) = Work (Err fault)
Told Work (Err (whole.States fault)) = ⊥

-- how a fault of the states is told: want of memory as before them
abbrev pub states_cause : StatesFault → WholeFault
states_cause (states_fault.Load NoMemory) = whole.Setup (setup_fault.Load NoMemory)
states_cause fault = whole.States fault

-- a loaded session with its states, where these URIs have numbers, or why there are none
abbrev pub Completes : VaultState → List (List ℕ) → Loaded → End → Type 0
Completes v urids made (Ok (setup, after)) =
    (states : List (List (ℕ × Prop))) × HasStates v made.session urids states after × (setup ≡ setup_of made states)
Completes v urids made (Err (whole.States fault)) =
    (fault ≢ states_fault.Load NoMemory) × ((v' : VaultState) × HasNoStates v v' made.session urids fault)
Completes v urids made (Err (whole.Setup fault)) = ⊥

-- the session of these bytes, with its bundles, its declarations and its plan, and then its states
abbrev pub LoadsWholeBytes : VaultState → (List ℕ → Option (List ℕ)) → List ℕ → List (List ℕ) → End → Type 0
LoadsWholeBytes v text bytes urids end = Then (Told (LoadsBytes v text bytes)) (Completes v urids) end

-- the same of the session file at a path
abbrev pub LoadsWholeFile : VaultState → (List ℕ → Option (List ℕ)) → List ℕ → List (List ℕ) → End → Type 0
LoadsWholeFile v text path urids end = Then (Told (LoadsFile v text path)) (Completes v urids) end

-- why work ends in a fault: memory was refused, or the work says so
abbrev pub IsCause : (End → Type 0) → WholeFault → Type 0
IsCause Work fault = (fault ≡ whole.Setup (setup_fault.Load NoMemory)) ⊎ Work (Err fault)

-- the vault counted that a state file isn't there, can't be read or is too long
abbrev pub IsCountedOfStates : VaultState → VaultState → StatesFault → Type 0
IsCountedOfStates before after (states_fault.Load fault) = setup.IsCountedFault before after fault
IsCountedOfStates before after (states_fault.Broken path rule) = Unit {0}
IsCountedOfStates before after states_fault.UridFull = Unit {0}

-- or that another file is such
abbrev pub IsCounted : VaultState → VaultState → WholeFault → Type 0
IsCounted before after (whole.Setup fault) = setup.IsCounted before after fault
IsCounted before after (whole.States fault) = IsCountedOfStates before after fault
