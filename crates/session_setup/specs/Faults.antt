-- How the faults of the steps are told among those of the whole, and what the vault counts of them.
use Rattle.std.specs.Prelude.{◌≡◌, ◌⊎◌, Result, Ok, Err}
use Rattle.lv_outside.specs.Count.{Rose}
use Rattle.lv_outside.specs.World.{VaultState}
use Rattle.session_script.specs.declared.fault.ScriptFault.{ScriptFault}
use Rattle.session_script.specs.declared.fault.ScriptFault.TheVariants as script
use Rattle.session_load.specs.declared.fault.LoadFault.{LoadFault}
use Rattle.session_load.specs.declared.fault.LoadFault.TheVariants.{Missing, ReadFailed, TooLong, Turtle, NoMemory}
use Rattle.session_setup.specs.declared.fault.SetupFault.{SetupFault}
use Rattle.session_setup.specs.declared.fault.SetupFault.TheVariants.{Load, Script, Undeclared, Graph}

-- a step that reads files
abbrev pub Told : {A : Type 0} → (Result A LoadFault → Type 0) → Result A SetupFault → Type 0
Told Step (Ok value) = Step (Ok value)
Told Step (Err (Load fault)) = Step (Err fault)
Told Step (Err (Script fault)) = ⊥
Told Step (Err (Undeclared uri fault)) = ⊥
Told Step (Err (Graph fault names)) = ⊥

-- a fault of the script
abbrev pub script_cause : ScriptFault → SetupFault
script_cause script.NoMemory = Load NoMemory
script_cause (script.Bad line rule) = Script (script.Bad line rule)
script_cause (script.Limit which number) = Script (script.Limit which number)

-- why work ends in a fault: memory was refused, or the work says so
abbrev pub IsCause : {A : Type 0} → (Result A SetupFault → Type 0) → SetupFault → Type 0
IsCause Work fault = (fault ≡ Load NoMemory) ⊎ Work (Err fault)

-- the vault counted that a file isn't there, can't be read or is too long
abbrev pub IsCountedFault : VaultState → VaultState → LoadFault → Type 0
IsCountedFault before after (Missing path) = Rose before.absences after.absences
IsCountedFault before after (ReadFailed path) = Rose before.faults after.faults
IsCountedFault before after (TooLong path) = Rose before.longs after.longs
IsCountedFault before after (Turtle path fault) = Unit {0}
IsCountedFault before after NoMemory = Unit {0}

abbrev pub IsCounted : VaultState → VaultState → SetupFault → Type 0
IsCounted before after (Load fault) = IsCountedFault before after fault
IsCounted before after (Script fault) = Unit {0}
IsCounted before after (Undeclared uri fault) = Unit {0}
IsCounted before after (Graph fault names) = Unit {0}
