-- Why the plug-ins of some rows aren't listed.
use Rattle.std.specs.Prelude.{◌≡◌, ◌≢◌, ℕ, List}
use Rattle.triple_store.specs.declared.term.Term.TheVariants.{Iri}
use Rattle.triple_store.specs.declared.term.Triple.{Triple}
use Rattle.plugin_decl.specs.Rules.{IsFirstBroken}
use Rattle.plugin_decl.specs.declared.declaration.DeclFault.{DeclFault}
use Rattle.plugin_decl.specs.declared.declaration.DeclFault.TheVariants.{NoMemory as Want}
use Rattle.plugin_list.specs.Rules.{rule_text}
use Rattle.session_load.specs.declared.fault.LoadFault.TheVariants.{NoMemory}
use Rattle.host_main.specs.Listing.{check_block, IsRefusedBy}
use Rattle.host_main.specs.declared.checking.refusal.CheckRefusal.{CheckRefusal}
use Rattle.host_main.specs.declared.checking.refusal.CheckRefusal.TheVariants.{Load, Undeclared}

-- a URI's declaration breaks a rule. Want of memory has no cause
abbrev pub IsUriRefusal : List Triple → List ℕ → CheckRefusal → Type 0
IsUriRefusal rows uri (Load NoMemory) = Unit {0}
IsUriRefusal rows uri (Undeclared named rule) =
    (named ≡ uri) × ((fault : DeclFault) × IsFirstBroken rows (Iri uri) check_block fault × (rule ≡ rule_text fault))
IsUriRefusal rows uri refusal = ⊥

-- a plug-in's declaration breaks a rule
abbrev pub IsPluginRefusal : List Triple → CheckRefusal → Type 0
IsPluginRefusal rows (Load NoMemory) = Unit {0}
IsPluginRefusal rows (Undeclared uri rule) = IsRefusedBy rows uri rule
IsPluginRefusal rows refusal = ⊥

-- why a plug-in with this fault isn't listed: the rule that it breaks, or want of memory
abbrev pub IsRefusalOf : List ℕ → DeclFault → CheckRefusal → Type 0
IsRefusalOf uri fault (Load NoMemory) = Unit {0}
IsRefusalOf uri fault (Undeclared named rule) = (named ≡ uri) × (fault ≢ Want) × (rule ≡ rule_text fault)
IsRefusalOf uri fault refusal = ⊥
