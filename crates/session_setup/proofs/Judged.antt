-- How the declaration of an instance is come to, and its faults.
use Rattle.std.proofs.Common.{◌≡◌, ◌≢◌, ℕ, ◌+◌, ◌<◌, List, [], ◌∷◌, ◌++◌, length, take, get_or, Option, Some, Result, Ok, Err, OnOk, All, length-append, refl, sym, ◌∙◌, subst, ap, inl, inr}
use Rattle.std.proofs.lemmas.List.Elements.{All-push}
use Rattle.std.proofs.lemmas.Option.{slice_get_read}
use Rattle.lv_outside.specs.World.{VaultState}
use Rattle.triple_store.specs.declared.term.Term.TheVariants.{Iri}
use Rattle.triple_store.specs.declared.term.Triple.{Triple}
use Rattle.turtle_document.specs.Answer.{IsReadAs}
use Rattle.turtle_document.specs.Answer.Outcome.{document, not_utf8, unclosed, bad_byte, syntax, fault as faulty}
use Rattle.turtle_document.specs.Meaning.{beginning}
use Rattle.turtle_document.specs.Meaning.Fault.{no_prefix, bad_iri, too_deep, full_store}
use Rattle.turtle_lex.specs.declared.fault.LexFault.TheVariants as lex
use Rattle.turtle_read.specs.Answers.{Tells, ReadsDocument}
use Rattle.turtle_read.specs.declared.fault.TurtleFault.{TurtleFault}
use Rattle.turtle_read.specs.declared.fault.TurtleFault.TheVariants as turtle
use Rattle.plugin_decl.specs.declared.declaration.Decl.{Decl}
use Rattle.plugin_decl.specs.declared.declaration.DeclFault.{DeclFault}
use Rattle.plugin_decl.specs.Rules as rules
use Rattle.plugin_decl.specs.Valid.{IsValid}
use Rattle.session_script.specs.declared.session.Inst.{Inst}
use Rattle.session_setup.specs.declared.fault.SetupFault.{SetupFault}
use Rattle.session_setup.specs.declared.fault.SetupFault.TheVariants.{Load, Script, Undeclared, Graph}
use Rattle.session_setup.specs.declared.newest.Declared.{Declared}
use Rattle.session_setup.specs.Newest.{IsNowhere, IsNewest}
use Rattle.session_setup.specs.Faults.{IsCause, IsCounted}
use Rattle.session_setup.specs.Declaring.{code_folder, HasRowsOfText, Judges, Declares, DeclaresByCode, DeclaresAll, TellsOf}
use Rattle.session_setup.proofs.Steps.{each-fault, each-more}
use Rattle.session_setup.proofs.Causes.{cause-each}

-- ---- the document of a code

-- it is none
unread : (bytes : List ℕ) (rows : List Triple) (why : TurtleFault) → why ≢ turtle.NoMemory → Tells (IsReadAs (beginning code_folder []) bytes) why
    → rows ≡ [] → HasRowsOfText (Some bytes) rows
unread bytes rows (turtle.Lex (lex.NotUtf8 at)) some h e = (not_utf8 at, h, e)
unread bytes rows (turtle.Lex (lex.Unclosed at)) some h e = (unclosed at, h, e)
unread bytes rows (turtle.Lex (lex.BadByte at)) some h e = (bad_byte at, h, e)
unread bytes rows (turtle.Syntax at) some h e = (syntax at, h, e)
unread bytes rows (turtle.NoPrefix at) some h e = (faulty (no_prefix at), h, e)
unread bytes rows (turtle.BadIri at) some h e = (faulty (bad_iri at), h, e)
unread bytes rows (turtle.Depth at) some h e = (faulty (too_deep at), h, e)
unread bytes rows (turtle.StoreFull at) some h e = (faulty (full_store at), h, e)
unread bytes rows turtle.NoMemory some h e = absurd (some refl)

answered : (bytes : List ℕ) (rows : List Triple) (answer : Result ℕ TurtleFault) → answer ≢ Err turtle.NoMemory
    → ReadsDocument (beginning code_folder []) bytes answer rows → HasRowsOfText (Some bytes) rows
answered bytes rows (Ok count) some h = (document rows, h.0, refl)
answered bytes rows (Err why) some h = unread bytes rows why (λ e. some (ap Err e)) h.0 h.1

-- it was read or refused
pub text-answered : {T E : Type 0} (base : List ℕ) (bytes : List ℕ) (old rows : List Triple) (answer : Result ℕ TurtleFault) (r : Result T E)
    → base ≡ code_folder → old ≡ [] → ReadsDocument (beginning base old) bytes answer rows → OnOk r (answer ≢ Err turtle.NoMemory)
    → OnOk r (HasRowsOfText (Some bytes) rows)
text-answered base bytes old rows answer (Ok done) e none h some =
    answered bytes rows answer some
    (subst (λ folder. ReadsDocument (beginning folder []) bytes answer rows) e (subst (λ (before : List Triple). ReadsDocument (beginning base before) bytes answer rows) none h))
text-answered base bytes old rows answer (Err why) e none h some = tt

-- ---- judging

pub judged-cause : (rows : List Triple) (uri : List ℕ) (block : ℕ) (fault : DeclFault) (told : SetupFault) → rules.IsCause rows (Iri uri) block fault
    → TellsOf uri fault told → IsCause (Judges rows uri block) told
judged-cause rows uri block fault told cause (inl e) = inl e
judged-cause rows uri block fault told (inl none) (inr h) = absurd (h.0 none)
judged-cause rows uri block fault told (inr broken) (inr h) =
    inr (subst (λ one. Judges rows uri block (Err one)) (sym h.1) (refl, broken))

-- ---- the rows that tell of a plug-in

pub told-by-bundle : (text : List ℕ → Option (List ℕ)) (bundles : List (List Triple)) (block : ℕ) (uri : List ℕ) (found : Declared) (rows : List Triple)
    (end : Result Decl SetupFault) → IsNewest bundles uri (length bundles) found → rows ≡ get_or bundles found.place rows → Judges rows uri block end
    → Declares text bundles block uri end
told-by-bundle text bundles block uri found rows end newest here judges =
    (rows, inl (found, newest, slice_get_read bundles (length bundles) found.place rows refl newest.there here), judges)

pub told-by-code : (text : List ℕ → Option (List ℕ)) (bundles : List (List Triple)) (block : ℕ) (uri : List ℕ) (end : Result Decl SetupFault)
    → IsNowhere bundles uri (length bundles) → DeclaresByCode text block uri end → Declares text bundles block uri end
told-by-code text bundles block uri end none (rows, has, judges) = (rows, inr (none, has), judges)

-- ---- the vault counts nothing of these faults

judged-counted : (v v' : VaultState) (rows : List Triple) (uri : List ℕ) (block : ℕ) (fault : SetupFault) → Judges rows uri block (Err fault) → IsCounted v v' fault
judged-counted v v' rows uri block (Undeclared named why) h = tt
judged-counted v v' rows uri block (Load why) h = absurd h
judged-counted v v' rows uri block (Script why) h = absurd h
judged-counted v v' rows uri block (Graph why names) h = absurd h

pub declared-counted : (v v' : VaultState) (text : List ℕ → Option (List ℕ)) (bundles : List (List Triple)) (block : ℕ) (insts : List Inst) (fault : SetupFault)
    → DeclaresAll text bundles block insts (Err fault) → IsCounted v v' fault
declared-counted v v' text bundles block insts fault h =
    each-fault (λ number (inst : Inst). Declares text bundles block inst.uri) (λ one. IsCounted v v' one) 0 insts fault
    (λ k inst declares. judged-counted v v' declares.0 inst.uri block fault declares.2) h

-- ---- one more instance

pub declares-more : (text : List ℕ → Option (List ℕ)) (bundles : List (List Triple)) (block : ℕ) (insts : List Inst) (k : ℕ) (inst : Inst) (decls more : List Decl)
    (decl : Decl) → k < length insts → inst ≡ get_or insts k inst → more ≡ decls ++ decl ∷ [] → DeclaresAll text bundles block (take k insts) (Ok decls)
    → Declares text bundles block inst.uri (Ok decl) → DeclaresAll text bundles block (take (k + 1) insts) (Ok more)
declares-more text bundles block insts k inst decls more decl within is e all here =
    subst (λ ds. DeclaresAll text bundles block (take (k + 1) insts) (Ok ds)) (sym e)
    (each-more (λ number (one : Inst). Declares text bundles block one.uri) insts k inst decls decl within is all here)

pub declares-stop : (text : List ℕ → Option (List ℕ)) (bundles : List (List Triple)) (block : ℕ) (insts : List Inst) (k : ℕ) (inst : Inst) (decls : List Decl)
    (fault : SetupFault) → k < length insts → inst ≡ get_or insts k inst → DeclaresAll text bundles block (take k insts) (Ok decls)
    → IsCause (Declares text bundles block inst.uri) fault → IsCause (DeclaresAll text bundles block insts) fault
declares-stop text bundles block insts k inst decls fault within is all cause =
    cause-each (λ number (one : Inst). Declares text bundles block one.uri) insts k inst decls fault within is all cause

pub length-more : {X : Type 0} (xs more : List X) (x : X) (k : ℕ) → more ≡ xs ++ x ∷ [] → length xs ≡ k → length more ≡ k + 1
length-more xs more x k e so = ap length e ∙ length-append xs (x ∷ []) ∙ ap (λ n. n + 1) so

pub valid-more : (decls more : List Decl) (decl : Decl) → more ≡ decls ++ decl ∷ [] → All IsValid decls → IsValid decl → All IsValid more
valid-more decls more decl e all here = subst (λ (ds : List Decl). All IsValid ds) (sym e) (All-push IsValid decls decl all here)
