-- What is declared of an instance's plug-in: by the bundle that counts, or else by the document that comes with its code.
use Rattle.std.specs.Prelude.{◌≡◌, ◌≢◌, ◌⊎◌, ℕ, List, [], length, slice_get, codes, Option, None, Some, Result, Ok, Err}
use Rattle.triple_store.specs.declared.term.Term.TheVariants.{Iri}
use Rattle.triple_store.specs.declared.term.Triple.{Triple}
use Rattle.turtle_document.specs.Answer.{Outcome, IsReadAs}
use Rattle.turtle_document.specs.Answer.Outcome.{document}
use Rattle.turtle_document.specs.Meaning.{beginning}
use Rattle.plugin_decl.specs.declared.declaration.Decl.{Decl}
use Rattle.plugin_decl.specs.declared.declaration.DeclFault.{DeclFault}
use Rattle.plugin_decl.specs.declared.declaration.DeclFault.TheVariants as decl
use Rattle.plugin_decl.specs.Declaration.{declaration_of}
use Rattle.plugin_decl.specs.Rules.{AreAllKept, IsFirstBroken}
use Rattle.session_load.specs.declared.fault.LoadFault.TheVariants.{NoMemory}
use Rattle.session_script.specs.declared.session.Inst.{Inst}
use Rattle.session_setup.specs.declared.fault.SetupFault.{SetupFault}
use Rattle.session_setup.specs.declared.fault.SetupFault.TheVariants.{Load, Script, Undeclared, Graph}
use Rattle.session_setup.specs.declared.newest.Declared.{Declared}
use Rattle.session_setup.specs.Newest.{IsNowhere, IsNewest}
use Rattle.session_setup.specs.Steps.{Each}

-- the IRI that the relative IRIs of a code's document are resolved against
abbrev pub code_folder : List ℕ
code_folder = codes "file:///code/"

-- the triples of bytes, of which those that are no document have none
abbrev pub rows_of : Outcome → List Triple
rows_of (document rows) = rows
rows_of other = []

-- the triples of the document that comes with a code, if one does
abbrev pub HasRowsOfText : Option (List ℕ) → List Triple → Type 0
HasRowsOfText None rows = rows ≡ []
HasRowsOfText (Some bytes) rows = (outcome : Outcome) × IsReadAs (beginning code_folder []) bytes outcome × (rows ≡ rows_of outcome)

-- the triples that tell of a plug-in: those of the bundle that counts, or, where no bundle declares it, those of its code's document
abbrev pub IsToldBy : (List ℕ → Option (List ℕ)) → List (List Triple) → List ℕ → List Triple → Type 0
IsToldBy text bundles uri rows =
    ((found : Declared) × IsNewest bundles uri (length bundles) found × (slice_get bundles found.place ≡ Some rows))
    ⊎ (IsNowhere bundles uri (length bundles) × HasRowsOfText (text uri) rows)

-- what triples declare of a plug-in, for blocks of this length, or the first rule that they break
abbrev pub Judges : List Triple → List ℕ → ℕ → Result Decl SetupFault → Type 0
Judges rows uri block (Ok decl) = AreAllKept rows (Iri uri) block × (decl ≡ declaration_of rows uri)
Judges rows uri block (Err (Undeclared named fault)) = (named ≡ uri) × IsFirstBroken rows (Iri uri) block fault
Judges rows uri block (Err (Load fault)) = ⊥
Judges rows uri block (Err (Script fault)) = ⊥
Judges rows uri block (Err (Graph fault names)) = ⊥

-- the declaration of a plug-in, where codes come with these documents
abbrev pub Declares : (List ℕ → Option (List ℕ)) → List (List Triple) → ℕ → List ℕ → Result Decl SetupFault → Type 0
Declares text bundles block uri end = (rows : List Triple) × IsToldBy text bundles uri rows × Judges rows uri block end

-- the declarations of instances, in order
abbrev pub DeclaresAll : (List ℕ → Option (List ℕ)) → List (List Triple) → ℕ → List Inst → Result (List Decl) SetupFault → Type 0
DeclaresAll text bundles block insts end = Each (λ number (inst : Inst). Declares text bundles block inst.uri) 0 insts end

-- what the document that comes with a code declares
abbrev pub DeclaresByCode : (List ℕ → Option (List ℕ)) → ℕ → List ℕ → Result Decl SetupFault → Type 0
DeclaresByCode text block uri end = (rows : List Triple) × HasRowsOfText (text uri) rows × Judges rows uri block end

-- a fault of a plug-in's declaration is told of the plug-in, or memory was refused
abbrev pub TellsOf : List ℕ → DeclFault → SetupFault → Type 0
TellsOf uri fault told = (told ≡ Load NoMemory) ⊎ ((fault ≢ decl.NoMemory) × (told ≡ Undeclared uri fault))
