-- The files of a known vault and the documents of codes give a session an answer.
use Rattle.std.proofs.Common.{◌≡◌, ◌⊎◌, ℕ, ◌<◌, ◌≤◌, List, [], length, get_or, Option, Some, None, Result, Ok, Err, IsTrue, refl, inl, inr}
use Rattle.std.proofs.lemmas.Bool.{cases_lt}
use Rattle.std.proofs.lemmas.Option.{slice_get-get_or}
use Rattle.lv_outside.specs.World.{VaultState}
use Rattle.triple_store.specs.declared.term.Term.TheVariants.{Iri}
use Rattle.triple_store.specs.declared.term.Triple.{Triple}
use Rattle.turtle_document.proofs.Outcomes.{every_outcome}
use Rattle.plugin_decl.specs.declared.declaration.Decl.{Decl}
use Rattle.plugin_decl.specs.declared.declaration.DeclFault.{DeclFault}
use Rattle.plugin_decl.specs.Declaration.{declaration_of}
use Rattle.plugin_decl.specs.Rules.{AreAllKept, IsFirstBroken}
use Rattle.plugin_decl.proofs.SomeAnswer as declarations
use Rattle.session_script.specs.declared.fault.ScriptFault.TheVariants as script
use Rattle.session_script.specs.declared.session.Inst.{Inst}
use Rattle.session_script.specs.declared.session.Session.{Session}
use Rattle.session_script.specs.Script as scripts
use Rattle.session_script.specs.Valid.{IsValid}
use Rattle.session_script.proofs.Existence as existence
use Rattle.graph_order.specs.Lines.{first_broken}
use Rattle.graph_order.specs.Answer as graphs
use Rattle.graph_order.proofs.SomeAnswer.{answered}
use Rattle.session_load.specs.declared.bundle_files.TheConstants.{MOST_FILE_BYTES}
use Rattle.session_load.specs.declared.fault.LoadFault.{LoadFault}
use Rattle.session_load.specs.declared.fault.LoadFault.TheVariants.{Missing, ReadFailed, TooLong, Turtle, NoMemory}
use Rattle.session_load.specs.OneAnswer as loads
use Rattle.session_load.proofs.SomeLoading as loading
use Rattle.session_setup.specs.declared.fault.SetupFault.{SetupFault}
use Rattle.session_setup.specs.declared.fault.SetupFault.TheVariants.{Load, Script, Undeclared, Graph}
use Rattle.session_setup.specs.declared.loaded.Loaded.{Loaded}
use Rattle.session_setup.specs.declared.newest.Declared.{Declared}
use Rattle.session_setup.specs.Newest.{Finds}
use Rattle.session_setup.specs.Steps.{Then}
use Rattle.session_setup.specs.Faults.{Told}
use Rattle.session_setup.specs.Declaring.{rows_of, HasRowsOfText, IsToldBy, Judges, Declares, DeclaresAll}
use Rattle.session_setup.specs.Planning.{cycle_names, Plans}
use Rattle.session_setup.specs.Loading.{Fetches, Says, Reads, ReadsAll, loaded, Arranges, LoadsSession, LoadsBytes, LoadsFile}
use Rattle.session_setup.specs.OneSetup.{IsOfFiles, IsGiven, HasSomeEnd, HasSomeSetup, HasSomeSetupOfBytes}
use Rattle.session_setup.proofs.Steps.{Fine, HasSome, some-then, some-each}
use Rattle.session_setup.proofs.Versions.{some_newest}
use Rattle.session_setup.proofs.OneAnswer.{said-valid}

-- ---- steps that read files

by-length : (v : VaultState) (path bytes : List ℕ) → v.file path ≡ Some bytes → (MOST_FILE_BYTES < length bytes) ⊎ (length bytes ≤ MOST_FILE_BYTES)
    → HasSome IsOfFiles (Told (Fetches v path))
by-length v path bytes here (inl long) = (Err (Load (TooLong path)), tt, (refl, λ known. (bytes, here, long)))
by-length v path bytes here (inr short) = (Ok bytes, tt, record { short = short; found = λ known. here })

by-file : (v : VaultState) (path : List ℕ) (found : Option (List ℕ)) → v.file path ≡ found → HasSome IsOfFiles (Told (Fetches v path))
by-file v path None e = (Err (Load (Missing path)), tt, (refl, λ known. e))
by-file v path (Some bytes) e = by-length v path bytes e (cases_lt MOST_FILE_BYTES (length bytes))

some-fetch : (v : VaultState) (path : List ℕ) → HasSome IsOfFiles (Told (Fetches v path))
some-fetch v path = by-file v path (v.file path) refl

by-loading : (v : VaultState) (number : ℕ) (folder : List ℕ) → (a : Result (List Triple) LoadFault) × loads.IsLoadedAs v folder number a
    → HasSome IsOfFiles (Told (Reads v number folder))
by-loading v number folder (Ok rows, x) = (Ok rows, tt, x)
by-loading v number folder (Err (Missing p), x) = (Err (Load (Missing p)), tt, ((λ e. cc), x.1))
by-loading v number folder (Err (ReadFailed p), x) = absurd x.0
by-loading v number folder (Err (TooLong p), x) = (Err (Load (TooLong p)), tt, ((λ e. cc), x.1))
by-loading v number folder (Err (Turtle p t), x) = (Err (Load (Turtle p t)), tt, ((λ e. cc), x.1))
by-loading v number folder (Err NoMemory, x) = absurd x.0

some-read : (v : VaultState) (number : ℕ) (folder : List ℕ) → IsTrue v.tells → HasSome IsOfFiles (Told (Reads v number folder))
some-read v number folder known = by-loading v number folder (loading.some_answer v folder number known)

-- ---- scripts

by-script : (bytes : List ℕ) → scripts.HasAnswer bytes → HasSome IsOfFiles (Says bytes)
by-script bytes (inl x) = (Ok x.0, tt, x.1)
by-script bytes (inr (inl x)) = (Err (Script (script.Bad x.0 x.1)), tt, x.2)
by-script bytes (inr (inr x)) = (Err (Script (script.Limit x.0 x.1)), tt, x.2)

some-said : (bytes : List ℕ) → HasSome IsOfFiles (Says bytes)
some-said bytes = by-script bytes (existence.some_answer bytes)

-- ---- declarations

some-rows-of-text : (text : Option (List ℕ)) → (rows : List Triple) × HasRowsOfText text rows
some-rows-of-text None = ([], refl)
some-rows-of-text (Some bytes) = let o = every_outcome _ [] bytes in (rows_of o.0, (o.0, o.1, refl))

by-newest : (text : List ℕ → Option (List ℕ)) (bundles : List (List Triple)) (uri : List ℕ) (found : Option Declared) → Finds bundles uri (length bundles) found
    → (rows : List Triple) × IsToldBy text bundles uri rows
by-newest text bundles uri None none = let some = some-rows-of-text (text uri) in (some.0, inr (none, some.1))
by-newest text bundles uri (Some found) newest =
    (get_or bundles found.place [], inl (found, newest, slice_get-get_or bundles found.place [] newest.there))

some-rows : (text : List ℕ → Option (List ℕ)) (bundles : List (List Triple)) (uri : List ℕ) → (rows : List Triple) × IsToldBy text bundles uri rows
some-rows text bundles uri = let found = some_newest bundles uri (length bundles) in by-newest text bundles uri found.0 found.1

by-rules : (rows : List Triple) (uri : List ℕ) (block : ℕ)
    → AreAllKept rows (Iri uri) block ⊎ ((fault : DeclFault) × IsFirstBroken rows (Iri uri) block fault) → HasSome IsOfFiles (Judges rows uri block)
by-rules rows uri block (inl kept) = (Ok (declaration_of rows uri), tt, (kept, refl))
by-rules rows uri block (inr broken) = (Err (Undeclared uri broken.0), tt, (refl, broken.1))

some-declared : (text : List ℕ → Option (List ℕ)) (bundles : List (List Triple)) (block : ℕ) (uri : List ℕ) → HasSome IsOfFiles (Declares text bundles block uri)
some-declared text bundles block uri =
    let rows = some-rows text bundles uri in
    let judged = by-rules rows.0 uri block (declarations.some_answer rows.0 (Iri uri) block) in
    (judged.0, judged.1, (rows.0, rows.1, judged.2))

-- ---- plans

by-graph : (session : Session) (decls : List Decl) → graphs.HasAnswer session decls → HasSome IsOfFiles (Plans session decls)
by-graph session decls (inl x) = (Ok x.0, tt, x.1)
by-graph session decls (inr x) = (Err (Graph x.0 (cycle_names session.insts x.0)), tt, (x.1, refl))

some-plan : (session : Session) (decls : List Decl) → IsValid session → HasSome IsOfFiles (Plans session decls)
some-plan session decls valid = by-graph session decls (answered session decls (first_broken session decls) refl valid.cables)

-- ---- the whole

some-arranged : (text : List ℕ → Option (List ℕ)) (bundles : List (List Triple)) (session : Session) → IsValid session
    → HasSome IsOfFiles (Arranges text bundles session)
some-arranged text bundles session valid =
    some-then IsOfFiles (DeclaresAll text bundles session.block session.insts)
    (λ decls. Then (Plans session decls) (λ plan all. all ≡ Ok (loaded session decls plan)))
    (some-each IsOfFiles (λ number (inst : Inst). Declares text bundles session.block inst.uri)
    (λ number inst. some-declared text bundles session.block inst.uri) 0 session.insts)
    (λ decls given. some-then IsOfFiles (Plans session decls) (λ plan all. all ≡ Ok (loaded session decls plan)) (some-plan session decls valid)
    (λ plan planned. (Ok (loaded session decls plan), tt, refl)))

some-loaded-session : (v : VaultState) (text : List ℕ → Option (List ℕ)) (session : Session) → IsTrue v.tells → IsValid session
    → HasSome IsOfFiles (LoadsSession v text session)
some-loaded-session v text session known valid =
    some-then IsOfFiles (ReadsAll v session.bundles) (λ bundles. Arranges text bundles session)
    (some-each IsOfFiles (λ number folder. Told (Reads v number folder)) (λ number folder. some-read v number folder known) 0 session.bundles)
    (λ bundles given. some-arranged text bundles session valid)

some-loaded-bytes : (v : VaultState) (text : List ℕ → Option (List ℕ)) (bytes : List ℕ) → IsTrue v.tells → HasSome IsOfFiles (LoadsBytes v text bytes)
some-loaded-bytes v text bytes known =
    some-then IsOfFiles (Says bytes) (LoadsSession v text) (some-said bytes)
    (λ session said. some-loaded-session v text session known (said-valid bytes session said))

some-loaded : (v : VaultState) (text : List ℕ → Option (List ℕ)) (path : List ℕ) → IsTrue v.tells → HasSome IsOfFiles (LoadsFile v text path)
some-loaded v text path known =
    some-then IsOfFiles (Told (Fetches v path)) (LoadsBytes v text) (some-fetch v path) (λ bytes given. some-loaded-bytes v text bytes known)

given : (end : Result Loaded SetupFault) → Fine IsOfFiles end → IsGiven end
given (Ok made) f = tt
given (Err fault) f = f

some-end : (Work : Result Loaded SetupFault → Type 0) → HasSome IsOfFiles Work → HasSomeEnd Work
some-end Work some = (some.0, given some.0 some.1, some.2)

pub some_setup : HasSomeSetup
some_setup v text path known = some-end (LoadsFile v text path) (some-loaded v text path known)

pub some_setup_of_bytes : HasSomeSetupOfBytes
some_setup_of_bytes v text bytes known = some-end (LoadsBytes v text bytes) (some-loaded-bytes v text bytes known)
