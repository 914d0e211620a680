-- The files of a known vault and the documents of codes give a session one answer.
use Rattle.std.proofs.Common.{◌≡◌, ◌≢◌, ℕ, ◌<◌, ◌≤◌, List, [], length, slice_get, Option, Some, None, Result, Ok, Err, IsTrue, refl, sym, ◌∙◌, ap, subst, arith, inl, inr}
use Rattle.lv_outside.specs.World.{VaultState}
use Rattle.triple_store.specs.declared.term.Term.TheVariants.{Iri}
use Rattle.triple_store.specs.declared.term.Triple.{Triple}
use Rattle.turtle_document.proofs.OneOutcome.{one_outcome}
use Rattle.plugin_decl.specs.declared.declaration.Decl.{Decl}
use Rattle.plugin_decl.proofs.Laws.{one_fault, not_both}
use Rattle.session_script.specs.declared.fault.ScriptFault.{ScriptFault}
use Rattle.session_script.specs.declared.fault.ScriptFault.TheVariants as script
use Rattle.session_script.specs.declared.session.Inst.{Inst}
use Rattle.session_script.specs.declared.session.Session.{Session}
use Rattle.session_script.specs.Line.{lines_of}
use Rattle.session_script.specs.Script.{IsSessionOf}
use Rattle.session_script.specs.Valid.{IsValid}
use Rattle.session_script.proofs.Laws as scripts
use Rattle.session_script.proofs.Validity.{valid}
use Rattle.graph_order.specs.Lines.{first_broken}
use Rattle.graph_order.proofs.Laws as graphs
use Rattle.graph_order.proofs.Answers.{not-both-of}
use Rattle.session_load.specs.declared.fault.LoadFault.{LoadFault}
use Rattle.session_load.specs.declared.fault.LoadFault.TheVariants.{Missing, ReadFailed, TooLong, Turtle, NoMemory}
use Rattle.session_load.specs.OneAnswer as loads
use Rattle.session_load.proofs.OneLoading as loading
use Rattle.session_setup.specs.declared.fault.SetupFault.{SetupFault}
use Rattle.session_setup.specs.declared.fault.SetupFault.TheVariants.{Load, Script, Undeclared, Graph}
use Rattle.session_setup.specs.declared.loaded.Loaded.{Loaded}
use Rattle.session_setup.specs.declared.newest.Declared.{Declared}
use Rattle.session_setup.specs.Steps.{Then}
use Rattle.session_setup.specs.Faults.{Told}
use Rattle.session_setup.specs.Declaring.{rows_of, HasRowsOfText, IsToldBy, Judges, Declares, DeclaresAll}
use Rattle.session_setup.specs.Planning.{cycle_names, Plans}
use Rattle.session_setup.specs.Loading.{Fetches, IsNoSession, Says, Reads, ReadsAll, loaded, Arranges, LoadsSession, LoadsBytes, LoadsFile}
use Rattle.session_setup.specs.OneSetup.{IsOfFiles, IsGiven, HasOneEnd, HasOneSetup, HasOneSetupOfBytes}
use Rattle.session_setup.proofs.Steps.{Fine, HasOne, one-then, one-each}
use Rattle.session_setup.proofs.Versions.{one_newest}

same-some : {X : Type 0} (a b : X) (x : Option X) → x ≡ Some a → x ≡ Some b → a ≡ b
same-some a b x here there = cc

none-some : {X : Type 0} (b : X) (x : Option X) → x ≡ None → x ≡ Some b → ⊥
none-some b x none some = cc

-- ---- steps that read files

-- at most one end, seen among the faults of files
abbrev HasOneRead : {A : Type 0} → (Result A LoadFault → Type 0) → Type 0
HasOneRead {A = A} Step = (x y : Result A LoadFault) → Fine (λ fault. IsOfFiles (Load fault)) x → Fine (λ fault. IsOfFiles (Load fault)) y → Step x → Step y → x ≡ y

abbrev raise : {A : Type 0} → Result A LoadFault → Result A SetupFault
raise (Ok value) = Ok value
raise (Err fault) = Err (Load fault)

one-told : {A : Type 0} (Step : Result A LoadFault → Type 0) → HasOneRead Step → HasOne IsOfFiles (Told Step)
one-told Step one (Ok a) (Ok b) f g x y = ap raise (one (Ok a) (Ok b) tt tt x y)
one-told Step one (Ok a) (Err (Load b)) f g x y = ap raise (one (Ok a) (Err b) tt g x y)
one-told Step one (Ok a) (Err (Script b)) f g x y = absurd y
one-told Step one (Ok a) (Err (Undeclared uri b)) f g x y = absurd y
one-told Step one (Ok a) (Err (Graph b names)) f g x y = absurd y
one-told Step one (Err (Load a)) (Ok b) f g x y = ap raise (one (Err a) (Ok b) f tt x y)
one-told Step one (Err (Load a)) (Err (Load b)) f g x y = ap raise (one (Err a) (Err b) f g x y)
one-told Step one (Err (Load a)) (Err (Script b)) f g x y = absurd y
one-told Step one (Err (Load a)) (Err (Undeclared uri b)) f g x y = absurd y
one-told Step one (Err (Load a)) (Err (Graph b names)) f g x y = absurd y
one-told Step one (Err (Script a)) z f g x y = absurd x
one-told Step one (Err (Undeclared uri a)) z f g x y = absurd x
one-told Step one (Err (Graph a names)) z f g x y = absurd x

-- the bytes of a file
too-long : (bytes more : List ℕ) (n : ℕ) → length bytes ≤ n → n < length more → bytes ≡ more → ⊥
too-long bytes more n short long e = omega (arith, short, long, ap length e)

one-fetch : (v : VaultState) (path : List ℕ) → IsTrue v.tells → HasOneRead (Fetches v path)
one-fetch v path known (Ok a) (Ok b) f g x y = ap Ok (same-some a b (v.file path) (x.found known) (y.found known))
one-fetch v path known (Ok a) (Err (Missing p)) f g x y = absurd (none-some a (v.file path) (y.1 known) (x.found known))
one-fetch v path known (Ok a) (Err (ReadFailed p)) f g x y = absurd g
one-fetch v path known (Ok a) (Err (TooLong p)) f g x y =
    absurd (too-long a (y.1 known).0 _ x.short (y.1 known).2 (same-some a (y.1 known).0 (v.file path) (x.found known) (y.1 known).1))
one-fetch v path known (Ok a) (Err (Turtle p t)) f g x y = absurd y
one-fetch v path known (Ok a) (Err NoMemory) f g x y = absurd y
one-fetch v path known (Err (Missing p)) (Ok b) f g x y = absurd (none-some b (v.file path) (x.1 known) (y.found known))
one-fetch v path known (Err (Missing p)) (Err (Missing q)) f g x y = ap (λ one. Err (Missing one)) (x.0 ∙ sym y.0)
one-fetch v path known (Err (Missing p)) (Err (ReadFailed q)) f g x y = absurd g
one-fetch v path known (Err (Missing p)) (Err (TooLong q)) f g x y = absurd (none-some (y.1 known).0 (v.file path) (x.1 known) (y.1 known).1)
one-fetch v path known (Err (Missing p)) (Err (Turtle q t)) f g x y = absurd y
one-fetch v path known (Err (Missing p)) (Err NoMemory) f g x y = absurd y
one-fetch v path known (Err (ReadFailed p)) z f g x y = absurd f
one-fetch v path known (Err (TooLong p)) (Ok b) f g x y =
    absurd (too-long b (x.1 known).0 _ y.short (x.1 known).2 (same-some b (x.1 known).0 (v.file path) (y.found known) (x.1 known).1))
one-fetch v path known (Err (TooLong p)) (Err (Missing q)) f g x y = absurd (none-some (x.1 known).0 (v.file path) (y.1 known) (x.1 known).1)
one-fetch v path known (Err (TooLong p)) (Err (ReadFailed q)) f g x y = absurd g
one-fetch v path known (Err (TooLong p)) (Err (TooLong q)) f g x y = ap (λ one. Err (TooLong one)) (x.0 ∙ sym y.0)
one-fetch v path known (Err (TooLong p)) (Err (Turtle q t)) f g x y = absurd y
one-fetch v path known (Err (TooLong p)) (Err NoMemory) f g x y = absurd y
one-fetch v path known (Err (Turtle p t)) z f g x y = absurd x
one-fetch v path known (Err NoMemory) z f g x y = absurd x

-- a bundle
of-files : (fault : LoadFault) → IsOfFiles (Load fault) → fault ≢ NoMemory → loads.IsOfFiles fault
of-files (Missing p) f some = tt
of-files (ReadFailed p) f some = f
of-files (TooLong p) f some = tt
of-files (Turtle p t) f some = tt
of-files NoMemory f some = some refl

loads-as : (v : VaultState) (number : ℕ) (folder : List ℕ) (end : Result (List Triple) LoadFault) → Fine (λ fault. IsOfFiles (Load fault)) end
    → Reads v number folder end → loads.IsLoadedAs v folder number end
loads-as v number folder (Ok rows) f x = x
loads-as v number folder (Err fault) f x = (of-files fault f x.0, x.1)

one-read : (v : VaultState) (number : ℕ) (folder : List ℕ) → IsTrue v.tells → HasOneRead (Reads v number folder)
one-read v number folder known p q f g x y =
    loading.one_answer v folder number p q known (loads-as v number folder p f x) (loads-as v number folder q g y)

-- ---- scripts

pub said-valid : (bytes : List ℕ) (session : Session) → IsSessionOf bytes session → IsValid session
said-valid bytes session s = valid (lines_of bytes) session s.whole s.value s.limited

one-no-session : (bytes : List ℕ) (a b : ScriptFault) → IsNoSession bytes a → IsNoSession bytes b → a ≡ b
one-no-session bytes (script.Bad m r) (script.Bad n s) x y =
    let e = scripts.one_line bytes m n r s x y in ap (λ line. script.Bad line r) e.0 ∙ ap (λ rule. script.Bad n rule) e.1
one-no-session bytes (script.Bad m r) (script.Limit w n) x y = absurd (scripts.line_first bytes m r w n x y)
one-no-session bytes (script.Limit w n) (script.Bad m r) x y = absurd (scripts.line_first bytes m r w n y x)
one-no-session bytes (script.Limit v m) (script.Limit w n) x y =
    let e = scripts.one_limit bytes v w m n x y in ap (λ limit. script.Limit limit m) e.0 ∙ ap (λ number. script.Limit w number) e.1
one-no-session bytes script.NoMemory b x y = absurd x
one-no-session bytes (script.Bad m r) script.NoMemory x y = absurd y
one-no-session bytes (script.Limit w n) script.NoMemory x y = absurd y

session-or-not : (bytes : List ℕ) (session : Session) (fault : ScriptFault) → IsSessionOf bytes session → IsNoSession bytes fault → ⊥
session-or-not bytes session (script.Bad n r) x y = scripts.no_line bytes session n r x y
session-or-not bytes session (script.Limit w n) x y = scripts.no_limit bytes session w n x y
session-or-not bytes session script.NoMemory x y = y

one-said : (bytes : List ℕ) → HasOne IsOfFiles (Says bytes)
one-said bytes (Ok a) (Ok b) f g x y = ap Ok (scripts.one_session bytes a b x y)
one-said bytes (Ok a) (Err (Script b)) f g x y = absurd (session-or-not bytes a b x y)
one-said bytes (Ok a) (Err (Load b)) f g x y = absurd y
one-said bytes (Ok a) (Err (Undeclared uri b)) f g x y = absurd y
one-said bytes (Ok a) (Err (Graph b names)) f g x y = absurd y
one-said bytes (Err (Script a)) (Ok b) f g x y = absurd (session-or-not bytes b a y x)
one-said bytes (Err (Script a)) (Err (Script b)) f g x y = ap (λ one. Err (Script one)) (one-no-session bytes a b x y)
one-said bytes (Err (Script a)) (Err (Load b)) f g x y = absurd y
one-said bytes (Err (Script a)) (Err (Undeclared uri b)) f g x y = absurd y
one-said bytes (Err (Script a)) (Err (Graph b names)) f g x y = absurd y
one-said bytes (Err (Load a)) z f g x y = absurd x
one-said bytes (Err (Undeclared uri a)) z f g x y = absurd x
one-said bytes (Err (Graph a names)) z f g x y = absurd x

-- ---- declarations

one-rows-of-text : (text : Option (List ℕ)) (a b : List Triple) → HasRowsOfText text a → HasRowsOfText text b → a ≡ b
one-rows-of-text None a b x y = x ∙ sym y
one-rows-of-text (Some bytes) a b x y = x.2 ∙ (ap rows_of (one_outcome _ [] bytes x.0 y.0 x.1 y.1) ∙ sym y.2)

same-place : (bundles : List (List Triple)) (a b : List Triple) (m n : ℕ) → m ≡ n → slice_get bundles m ≡ Some a → slice_get bundles n ≡ Some b → a ≡ b
same-place bundles a b m n e x y = same-some a b (slice_get bundles n) (subst (λ k. slice_get bundles k ≡ Some a) e x) y

some-some : (a b : Declared) → Some a ≡ Some b → a ≡ b
some-some a b e = cc

some-not-none : (a : Declared) → Some a ≡ None → ⊥
some-not-none a e = cc

one-rows : (text : List ℕ → Option (List ℕ)) (bundles : List (List Triple)) (uri : List ℕ) (a b : List Triple) → IsToldBy text bundles uri a
    → IsToldBy text bundles uri b → a ≡ b
one-rows text bundles uri a b (inl x) (inl y) =
    same-place bundles a b x.0.place y.0.place
    (ap (λ (one : Declared). one.place) (some-some x.0 y.0 (one_newest bundles uri (length bundles) (Some x.0) (Some y.0) x.1 y.1))) x.2 y.2
one-rows text bundles uri a b (inl x) (inr y) = absurd (some-not-none x.0 (one_newest bundles uri (length bundles) (Some x.0) None x.1 y.0))
one-rows text bundles uri a b (inr x) (inl y) = absurd (some-not-none y.0 (one_newest bundles uri (length bundles) (Some y.0) None y.1 x.0))
one-rows text bundles uri a b (inr x) (inr y) = one-rows-of-text (text uri) a b x.1 y.1

one-judged : (rows : List Triple) (uri : List ℕ) (block : ℕ) (x y : Result Decl SetupFault) → Judges rows uri block x → Judges rows uri block y → x ≡ y
one-judged rows uri block (Ok a) (Ok b) x y = ap Ok (x.1 ∙ sym y.1)
one-judged rows uri block (Ok a) (Err (Undeclared named b)) x y = absurd (not_both rows (Iri uri) block b x.0 y.1)
one-judged rows uri block (Ok a) (Err (Load b)) x y = absurd y
one-judged rows uri block (Ok a) (Err (Script b)) x y = absurd y
one-judged rows uri block (Ok a) (Err (Graph b names)) x y = absurd y
one-judged rows uri block (Err (Undeclared named a)) (Ok b) x y = absurd (not_both rows (Iri uri) block a y.0 x.1)
one-judged rows uri block (Err (Undeclared named a)) (Err (Undeclared called b)) x y =
    ap (λ one. Err (Undeclared one a)) (x.0 ∙ sym y.0) ∙ ap (λ one. Err (Undeclared called one)) (one_fault rows (Iri uri) block a b x.1 y.1)
one-judged rows uri block (Err (Undeclared named a)) (Err (Load b)) x y = absurd y
one-judged rows uri block (Err (Undeclared named a)) (Err (Script b)) x y = absurd y
one-judged rows uri block (Err (Undeclared named a)) (Err (Graph b names)) x y = absurd y
one-judged rows uri block (Err (Load a)) z x y = absurd x
one-judged rows uri block (Err (Script a)) z x y = absurd x
one-judged rows uri block (Err (Graph a names)) z x y = absurd x

one-declared : (text : List ℕ → Option (List ℕ)) (bundles : List (List Triple)) (block : ℕ) (uri : List ℕ) → HasOne IsOfFiles (Declares text bundles block uri)
one-declared text bundles block uri p q f g x y =
    one-judged x.0 uri block p q x.2
    (subst (λ rows. Judges rows uri block q) (one-rows text bundles uri y.0 x.0 y.1 x.1) y.2)

-- ---- plans

one-plan-of : (session : Session) (decls : List Decl) → IsValid session → HasOne IsOfFiles (Plans session decls)
one-plan-of session decls valid (Ok a) (Ok b) f g x y = ap Ok (graphs.one-plan session.cables (length session.insts) a b x.plan y.plan)
one-plan-of session decls valid (Ok a) (Err (Graph b names)) f g x y = absurd (not-both-of session decls a b valid.cables x y.0)
one-plan-of session decls valid (Ok a) (Err (Load b)) f g x y = absurd y
one-plan-of session decls valid (Ok a) (Err (Script b)) f g x y = absurd y
one-plan-of session decls valid (Ok a) (Err (Undeclared uri b)) f g x y = absurd y
one-plan-of session decls valid (Err (Graph a names)) (Ok b) f g x y = absurd (not-both-of session decls b a valid.cables y x.0)
one-plan-of session decls valid (Err (Graph a names)) (Err (Graph b others)) f g x y =
    let e : a ≡ b = graphs.one-fault (first_broken session decls) session.cables a b x.0 y.0 in
    ap (λ one. Err (Graph one names)) e ∙ ap (λ one. Err (Graph b one)) (x.1 ∙ (ap (λ one. cycle_names session.insts one) e ∙ sym y.1))
one-plan-of session decls valid (Err (Graph a names)) (Err (Load b)) f g x y = absurd y
one-plan-of session decls valid (Err (Graph a names)) (Err (Script b)) f g x y = absurd y
one-plan-of session decls valid (Err (Graph a names)) (Err (Undeclared uri b)) f g x y = absurd y
one-plan-of session decls valid (Err (Load a)) z f g x y = absurd x
one-plan-of session decls valid (Err (Script a)) z f g x y = absurd x
one-plan-of session decls valid (Err (Undeclared uri a)) z f g x y = absurd x

-- ---- the whole

one-arranged : (text : List ℕ → Option (List ℕ)) (bundles : List (List Triple)) (session : Session) → IsValid session
    → HasOne IsOfFiles (Arranges text bundles session)
one-arranged text bundles session valid =
    one-then IsOfFiles (DeclaresAll text bundles session.block session.insts)
    (λ decls. Then (Plans session decls) (λ plan all. all ≡ Ok (loaded session decls plan)))
    (one-each IsOfFiles (λ number (inst : Inst). Declares text bundles session.block inst.uri)
    (λ number inst. one-declared text bundles session.block inst.uri) 0 session.insts)
    (λ decls given. one-then IsOfFiles (Plans session decls) (λ plan all. all ≡ Ok (loaded session decls plan)) (one-plan-of session decls valid)
    (λ plan planned p q f g x y. x ∙ sym y))

one-loaded-session : (v : VaultState) (text : List ℕ → Option (List ℕ)) (session : Session) → IsTrue v.tells → IsValid session
    → HasOne IsOfFiles (LoadsSession v text session)
one-loaded-session v text session known valid =
    one-then IsOfFiles (ReadsAll v session.bundles) (λ bundles. Arranges text bundles session)
    (one-each IsOfFiles (λ number folder. Told (Reads v number folder))
    (λ number folder. one-told (Reads v number folder) (one-read v number folder known)) 0 session.bundles)
    (λ bundles given. one-arranged text bundles session valid)

one-loaded-bytes : (v : VaultState) (text : List ℕ → Option (List ℕ)) (bytes : List ℕ) → IsTrue v.tells → HasOne IsOfFiles (LoadsBytes v text bytes)
one-loaded-bytes v text bytes known =
    one-then IsOfFiles (Says bytes) (LoadsSession v text) (one-said bytes)
    (λ session said. one-loaded-session v text session known (said-valid bytes session said))

one-loaded : (v : VaultState) (text : List ℕ → Option (List ℕ)) (path : List ℕ) → IsTrue v.tells → HasOne IsOfFiles (LoadsFile v text path)
one-loaded v text path known =
    one-then IsOfFiles (Told (Fetches v path)) (LoadsBytes v text) (one-told (Fetches v path) (one-fetch v path known))
    (λ bytes given. one-loaded-bytes v text bytes known)

fine : (end : Result Loaded SetupFault) → IsGiven end → Fine IsOfFiles end
fine (Ok made) g = tt
fine (Err fault) g = g

one-end : (Work : Result Loaded SetupFault → Type 0) → HasOne IsOfFiles Work → HasOneEnd Work
one-end Work one a b f g x y = one a b (fine a f) (fine b g) x y

pub one_setup : HasOneSetup
one_setup v text path known = one-end (LoadsFile v text path) (one-loaded v text path known)

pub one_setup_of_bytes : HasOneSetupOfBytes
one_setup_of_bytes v text bytes known = one-end (LoadsBytes v text bytes) (one-loaded-bytes v text bytes known)
