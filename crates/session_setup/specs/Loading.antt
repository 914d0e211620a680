-- What a session file and its bundles say, by what the files hold alone: a session with a declaration for each instance and a plan, or the
-- first fault in the order of work. A read may fail at any time; nothing that the files hold causes that. States aren't read here.
use Rattle.std.specs.Prelude.{◌≡◌, ◌≢◌, ℕ, ◌<◌, IsTrue, List, length, Option, None, Some, Result, Ok, Err}
use Rattle.lv_outside.specs.World.{VaultState}
use Rattle.triple_store.specs.declared.term.Triple.{Triple}
use Rattle.plugin_decl.specs.declared.declaration.Decl.{Decl}
use Rattle.session_script.specs.declared.fault.ScriptFault.{ScriptFault}
use Rattle.session_script.specs.declared.fault.ScriptFault.TheVariants as script
use Rattle.session_script.specs.declared.session.Session.{Session}
use Rattle.session_script.specs.Script.{IsSessionOf, IsFirstBroken, IsPast}
use Rattle.session_load.specs.Bundle.{IsFile, IsBundle, IsUnloaded}
use Rattle.session_load.specs.declared.bundle_files.TheConstants.{MOST_FILE_BYTES}
use Rattle.session_load.specs.declared.fault.LoadFault.{LoadFault}
use Rattle.session_load.specs.declared.fault.LoadFault.TheVariants.{Missing, ReadFailed, TooLong, Turtle, NoMemory}
use Rattle.graph_order.specs.declared.plan.Plan.{Plan}
use Rattle.session_setup.specs.declared.fault.SetupFault.{SetupFault}
use Rattle.session_setup.specs.declared.fault.SetupFault.TheVariants.{Load, Script, Undeclared, Graph}
use Rattle.session_setup.specs.declared.loaded.Loaded.{Loaded}
use Rattle.session_setup.specs.Steps.{Then, Each}
use Rattle.session_setup.specs.Faults.{Told}
use Rattle.session_setup.specs.Declaring.{DeclaresAll}
use Rattle.session_setup.specs.Planning.{Plans}

-- why the file at a path gives no bytes
abbrev pub IsUnfetched : VaultState → List ℕ → LoadFault → Type 0
IsUnfetched v path (Missing at) = (at ≡ path) × (IsTrue v.tells → v.file path ≡ None)
IsUnfetched v path (ReadFailed at) = at ≡ path
IsUnfetched v path (TooLong at) =
    (at ≡ path) × (IsTrue v.tells → (bytes : List ℕ) × (v.file path ≡ Some bytes) × (MOST_FILE_BYTES < length bytes))
IsUnfetched v path (Turtle at fault) = ⊥
IsUnfetched v path NoMemory = ⊥

-- the bytes of a file, or why there are none
abbrev pub Fetches : VaultState → List ℕ → Result (List ℕ) LoadFault → Type 0
Fetches v path (Ok bytes) = IsFile v path bytes
Fetches v path (Err fault) = IsUnfetched v path fault

-- why a script says no session
abbrev pub IsNoSession : List ℕ → ScriptFault → Type 0
IsNoSession bytes (script.Bad line rule) = IsFirstBroken bytes line rule
IsNoSession bytes (script.Limit which number) = IsPast bytes which number
IsNoSession bytes script.NoMemory = ⊥

-- the session that a script says, or its first broken line, or the first limit that it passes
abbrev pub Says : List ℕ → Result Session SetupFault → Type 0
Says bytes (Ok session) = IsSessionOf bytes session
Says bytes (Err (Script fault)) = IsNoSession bytes fault
Says bytes (Err (Load fault)) = ⊥
Says bytes (Err (Undeclared uri fault)) = ⊥
Says bytes (Err (Graph fault names)) = ⊥

-- the triples of the bundle in a folder, or why there are none
abbrev pub Reads : VaultState → ℕ → List ℕ → Result (List Triple) LoadFault → Type 0
Reads v number folder (Ok rows) = IsBundle v folder number rows
Reads v number folder (Err fault) = (fault ≢ NoMemory) × ((after : VaultState) × IsUnloaded v after folder number fault)

-- the triples of the bundles in these folders, in order
abbrev pub ReadsAll : VaultState → List (List ℕ) → Result (List (List Triple)) SetupFault → Type 0
ReadsAll v folders end = Each (λ number folder. Told (Reads v number folder)) 0 folders end

abbrev pub loaded : Session → List Decl → Plan → Loaded
loaded session decls plan = record { session = session; decls = decls; plan = plan }

-- the declarations of a session's instances, and then its plan
abbrev pub Arranges : (List ℕ → Option (List ℕ)) → List (List Triple) → Session → Result Loaded SetupFault → Type 0
Arranges text bundles session end =
    Then (DeclaresAll text bundles session.block session.insts) (λ decls.
    Then (Plans session decls) (λ plan all. all ≡ Ok (loaded session decls plan))) end

-- the bundles of a session, and then those
abbrev pub LoadsSession : VaultState → (List ℕ → Option (List ℕ)) → Session → Result Loaded SetupFault → Type 0
LoadsSession v text session end = Then (ReadsAll v session.bundles) (λ bundles. Arranges text bundles session) end

-- the bytes of a session file
abbrev pub LoadsBytes : VaultState → (List ℕ → Option (List ℕ)) → List ℕ → Result Loaded SetupFault → Type 0
LoadsBytes v text bytes end = Then (Says bytes) (LoadsSession v text) end

-- the session file at a path
abbrev pub LoadsFile : VaultState → (List ℕ → Option (List ℕ)) → List ℕ → Result Loaded SetupFault → Type 0
LoadsFile v text path end = Then (Told (Fetches v path)) (LoadsBytes v text) end
