-- What is listed of a bundle by its rows, and the plug-in that can't be listed.
use Rattle.std.specs.Prelude.{◌≡◌, ℕ, List, ◌∷◌, ◌++◌, flat_map, length, All}
use Rattle.triple_store.specs.declared.term.Term.TheVariants.{Iri}
use Rattle.triple_store.specs.declared.term.Triple.{Triple}
use Rattle.triple_list.specs.Listing.{listing_of}
use Rattle.plugin_decl.specs.Declaration.{declaration_of}
use Rattle.plugin_decl.specs.Rules.{AreAllKept, IsFirstBroken}
use Rattle.plugin_decl.specs.declared.declaration.DeclFault.{DeclFault}
use Rattle.plugin_list.specs.Listing.{plugin_lines, count_line}
use Rattle.plugin_list.specs.Plugins.{plugins_of}
use Rattle.plugin_list.specs.Rules.{rule_text}

-- the length of the blocks for which a plug-in's features are judged
abbrev pub check_block : ℕ
check_block = 256

-- the lines of a plug-in and of its ports
abbrev pub declared_lines : List Triple → List ℕ → List ℕ
declared_lines rows uri = plugin_lines (declaration_of rows uri)

-- how many plug-ins there are, and the lines of each
abbrev pub plugins_listing : List Triple → List ℕ
plugins_listing rows = count_line (length (plugins_of rows)) ++ flat_map (declared_lines rows) (plugins_of rows)

-- what is listed of a bundle with these rows: its triples and their number, then its plug-ins
abbrev pub check_listing : List Triple → List ℕ
check_listing rows = listing_of rows ++ plugins_listing rows

-- the declaration of a URI breaks no rule
abbrev pub IsDeclared : List Triple → List ℕ → Type 0
IsDeclared rows uri = AreAllKept rows (Iri uri) check_block

-- the declarations of all plug-ins break no rule
abbrev pub AreDeclared : List Triple → Type 0
AreDeclared rows = All (IsDeclared rows) (plugins_of rows)

-- the first plug-in whose declaration breaks a rule, and the first rule that it breaks
pub record IsUndeclared (rows : List Triple) (uri : List ℕ) (fault : DeclFault) : Type 0 where
  pub front : List (List ℕ)
  pub back : List (List ℕ)
  pub order : plugins_of rows ≡ front ++ uri ∷ back
  pub declared : All (IsDeclared rows) front
  pub broken : IsFirstBroken rows (Iri uri) check_block fault

-- the rule that it breaks, as text
abbrev pub IsRefusedBy : List Triple → List ℕ → List ℕ → Type 0
IsRefusedBy rows uri rule = (fault : DeclFault) × IsUndeclared rows uri fault × (rule ≡ rule_text fault)
