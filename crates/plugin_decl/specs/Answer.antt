-- What the reader of a declaration answers where the definitions say what it is.
use Rattle.std.specs.Prelude.{◌≡◌, ◌⊎◌, Result, Ok, Err}
use Rattle.plugin_decl.specs.declared.declaration.Decl.{Decl}
use Rattle.plugin_decl.specs.declared.declaration.DeclFault.{DeclFault}
use Rattle.plugin_decl.specs.declared.declaration.DeclFault.TheVariants.{NoMemory}

-- this declaration, unless memory was refused
abbrev pub IsDeclOrNoMemory : Decl → Result Decl DeclFault → Type 0
IsDeclOrNoMemory decl (Ok d) = d ≡ decl
IsDeclOrNoMemory decl (Err fault) = fault ≡ NoMemory

-- this fault, unless memory was refused
abbrev pub IsFaultOrNoMemory : DeclFault → Result Decl DeclFault → Type 0
IsFaultOrNoMemory first (Ok d) = ⊥
IsFaultOrNoMemory first (Err fault) = (fault ≡ first) ⊎ (fault ≡ NoMemory)
