-- What the calls that judge a declaration answer, one after another. No public clause rests on them.
use Rattle.std.specs.Prelude.{◌≡◌, ℕ, ◌<◌, Bool, true, false, List, Option, None, Some, IfSome, Result, Ok, Err}
use Rattle.std.specs.List.{AllByRecursion}
use Rattle.triple_store.specs.declared.term.Term.{Term}
use Rattle.triple_store.specs.declared.term.Triple.{Triple}
use Rattle.plugin_decl.specs.declared.breaches.Breaches.{Breaches}
use Rattle.plugin_decl.specs.declared.declaration.DeclFault.{DeclFault}
use Rattle.plugin_decl.specs.declared.declaration.DeclFault.TheVariants.{BadSymbol, NoName, NoDirection, TwoDirections, PortClass, BadValue}
use Rattle.plugin_decl.specs.declared.port_rules.PortRule.{PortRule}
use Rattle.plugin_decl.specs.declared.port_rules.PortRule.TheVariants.{Symbol, Name, Direction, OneDirection, Class, Value}
use Rattle.plugin_decl.specs.Rules.Rule.{bad_symbol, no_name, no_direction, two_directions, port_class, bad_value}
use Rattle.plugin_decl.specs.Rules.{Rule, AreKeptBelow, IsCause}

-- the indexes that stand are below 256
abbrev pub AreIndexes : List (Option ℕ) → Type 0
AreIndexes indexes = AllByRecursion (λ index. IfSome index (λ i. i < 256)) indexes

-- the first place where a test is true, or it is true nowhere
abbrev pub IsFirstPlace : (ℕ → Bool) → Option ℕ → Type 0
IsFirstPlace test None = (place : ℕ) → test place ≡ false
IsFirstPlace test (Some place) = (test place ≡ true) × ((before : ℕ) → before < place → test before ≡ false)

-- the rules before the n-th are kept, or the fault is the first that is broken
abbrev pub Checked : {A : Type 0} → List Triple → Term → ℕ → ℕ → Result A DeclFault → Type 0
Checked rows plugin block n (Ok _) = AreKeptBelow rows plugin block n
Checked rows plugin block n (Err fault) = IsCause rows plugin block fault

-- the rule that looks at one port
abbrev pub rule_of : PortRule → Rule
rule_of Symbol = bad_symbol
rule_of Name = no_name
rule_of Direction = no_direction
rule_of OneDirection = two_directions
rule_of Class = port_class
rule_of Value = bad_value

-- a port's breaches have this rule
abbrev pub is_broken_in : PortRule → Breaches → Bool
is_broken_in Symbol breaches = breaches.symbol
is_broken_in Name breaches = breaches.name
is_broken_in Direction breaches = breaches.direction
is_broken_in OneDirection breaches = breaches.one_direction
is_broken_in Class breaches = breaches.class
is_broken_in Value breaches = breaches.value

abbrev pub fault_of : PortRule → ℕ → DeclFault
fault_of Symbol i = BadSymbol i
fault_of Name i = NoName i
fault_of Direction i = NoDirection i
fault_of OneDirection i = TwoDirections i
fault_of Class i = PortClass i
fault_of Value i = BadValue i
