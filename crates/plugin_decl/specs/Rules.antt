-- The rules of a declaration, and the first that the triples break.
use Rattle.std.specs.Prelude.{◌≡◌, ◌⊎◌, ℕ, ◌<◌, Bool, true, false, not, ◌&&◌, nat_lt, List, take, length, count_by, slice_get, Some, is_none}
use Rattle.std.specs.List.{list_any}
use Rattle.std.specs.Option.{option_map_or}
use Rattle.std.specs.Str.{bytes_eq}
use Rattle.triple_store.specs.declared.term.Term.{Term}
use Rattle.triple_store.specs.declared.term.Triple.{Triple}
use Rattle.plugin_decl.specs.declared.declaration.Port.{Port}
use Rattle.plugin_decl.specs.declared.declaration.DeclFault.{DeclFault}
use Rattle.plugin_decl.specs.declared.declaration.DeclFault.TheVariants.{NoPlugin, BadIndex, SameIndex, Gap, BadSymbol, SameSymbol, NoName, NoDirection, TwoDirections, PortClass, Feature, RequiredOption, BadValue, NoMemory}
use Rattle.vocabulary.specs.declared.word.Word.TheVariants.{Lv2Plugin, Lv2RequiredFeature, OptionsRequiredOption}
use Rattle.plugin_decl.specs.Objects.{objects_of, is_a}
use Rattle.plugin_decl.specs.Declaration.{indexes_of, is_index, ports_of, declared_ports}
use Rattle.plugin_decl.specs.Features.{is_supported, is_given}
use Rattle.plugin_decl.specs.PortRules.{lacks_symbol, lacks_name, lacks_direction, has_two_directions, lacks_class, has_bad_value}

pub data Rule : Type 0 where
  no_plugin : Rule
  bad_index : Rule
  same_index : Rule
  gap : Rule
  bad_symbol : Rule
  same_symbol : Rule
  no_name : Rule
  no_direction : Rule
  two_directions : Rule
  port_class : Rule
  feature : Rule
  required_option : Rule
  bad_value : Rule

-- their order
abbrev pub number : Rule → ℕ
number no_plugin = 0
number bad_index = 1
number same_index = 2
number gap = 3
number bad_symbol = 4
number same_symbol = 5
number no_name = 6
number no_direction = 7
number two_directions = 8
number port_class = 9
number feature = 10
number required_option = 11
number bad_value = 12

-- the item at a place, if there is one, passes
abbrev pub passes_at : {X : Type 0} → (X → Bool) → List X → ℕ → Bool
passes_at passes xs place = option_map_or passes (slice_get xs place) false

-- another port has this symbol
abbrev pub has_symbol_of : Port → Port → Bool
has_symbol_of port other = bytes_eq other.symbol port.symbol

-- the port at a place has the symbol of one before it
unfoldable pub repeats_symbol : List Port → ℕ → Bool
repeats_symbol ports place = passes_at (λ port. list_any (has_symbol_of port) (take place ports)) ports place

-- whether a rule is broken at a place: for bad_index the number of a port in order of the triples, for the other rules on ports an
-- index, and for features and options their number among those that are required
unfoldable pub breaks : List Triple → Term → ℕ → Rule → ℕ → Bool
breaks rows plugin block no_plugin place = not (is_a rows plugin Lv2Plugin)
breaks rows plugin block bad_index place = passes_at is_none (indexes_of rows plugin) place
breaks rows plugin block same_index i = nat_lt 1 (count_by (is_index i) (indexes_of rows plugin))
breaks rows plugin block gap i = nat_lt i (length (indexes_of rows plugin)) && not (list_any (is_index i) (indexes_of rows plugin))
breaks rows plugin block bad_symbol i = passes_at (lacks_symbol rows) (ports_of rows plugin) i
breaks rows plugin block same_symbol i = repeats_symbol (declared_ports rows plugin) i
breaks rows plugin block no_name i = passes_at (lacks_name rows) (ports_of rows plugin) i
breaks rows plugin block no_direction i = passes_at (lacks_direction rows) (ports_of rows plugin) i
breaks rows plugin block two_directions i = passes_at (has_two_directions rows) (ports_of rows plugin) i
breaks rows plugin block port_class i = passes_at (lacks_class rows) (ports_of rows plugin) i
breaks rows plugin block feature place = passes_at (λ term. not (is_supported block term)) (objects_of rows plugin Lv2RequiredFeature) place
breaks rows plugin block required_option place = passes_at (λ term. not (is_given term)) (objects_of rows plugin OptionsRequiredOption) place
breaks rows plugin block bad_value i = passes_at (has_bad_value rows) (ports_of rows plugin) i

-- a rule is broken nowhere
abbrev pub IsKept : List Triple → Term → ℕ → Rule → Type 0
IsKept rows plugin block rule = (place : ℕ) → breaks rows plugin block rule place ≡ false

-- no rule is broken
abbrev pub AreAllKept : List Triple → Term → ℕ → Type 0
AreAllKept rows plugin block = (rule : Rule) → IsKept rows plugin block rule

-- no rule before the n-th is broken
abbrev pub AreKeptBelow : List Triple → Term → ℕ → ℕ → Type 0
AreKeptBelow rows plugin block n = (rule : Rule) → number rule < n → IsKept rows plugin block rule

-- the first rule that is broken, and the least place where it is
pub record IsFirst (rows : List Triple) (plugin : Term) (block : ℕ) (rule : Rule) (place : ℕ) : Type 0 where
  pub broken : breaks rows plugin block rule place ≡ true
  pub least : (before : ℕ) → before < place → breaks rows plugin block rule before ≡ false
  pub kept : AreKeptBelow rows plugin block (number rule)

-- the same, where a fault shows the term at that place
abbrev pub IsFirstAmong : List Triple → Term → ℕ → Rule → List Term → Term → Type 0
IsFirstAmong rows plugin block rule terms term = (place : ℕ) × (slice_get terms place ≡ Some term) × IsFirst rows plugin block rule place

-- a fault is the first broken rule. No triples cause want of memory
abbrev pub IsFirstBroken : List Triple → Term → ℕ → DeclFault → Type 0
IsFirstBroken rows plugin block NoPlugin = IsFirst rows plugin block no_plugin 0
IsFirstBroken rows plugin block (BadIndex place) = IsFirst rows plugin block bad_index place
IsFirstBroken rows plugin block (SameIndex i) = IsFirst rows plugin block same_index i
IsFirstBroken rows plugin block (Gap i) = IsFirst rows plugin block gap i
IsFirstBroken rows plugin block (BadSymbol i) = IsFirst rows plugin block bad_symbol i
IsFirstBroken rows plugin block (SameSymbol i) = IsFirst rows plugin block same_symbol i
IsFirstBroken rows plugin block (NoName i) = IsFirst rows plugin block no_name i
IsFirstBroken rows plugin block (NoDirection i) = IsFirst rows plugin block no_direction i
IsFirstBroken rows plugin block (TwoDirections i) = IsFirst rows plugin block two_directions i
IsFirstBroken rows plugin block (PortClass i) = IsFirst rows plugin block port_class i
IsFirstBroken rows plugin block (Feature term) = IsFirstAmong rows plugin block feature (objects_of rows plugin Lv2RequiredFeature) term
IsFirstBroken rows plugin block (RequiredOption term) = IsFirstAmong rows plugin block required_option (objects_of rows plugin OptionsRequiredOption) term
IsFirstBroken rows plugin block (BadValue i) = IsFirst rows plugin block bad_value i
IsFirstBroken rows plugin block NoMemory = ⊥

-- why a declaration is refused: memory is short, or the fault is the first broken rule
abbrev pub IsCause : List Triple → Term → ℕ → DeclFault → Type 0
IsCause rows plugin block fault = (fault ≡ NoMemory) ⊎ IsFirstBroken rows plugin block fault
