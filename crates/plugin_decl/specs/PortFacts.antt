-- What one pass over the rows of a port keeps of them, and what that says. No public clause rests on it.
use Rattle.std.specs.Prelude.{◌≡◌, ℕ, Bool, false, not, List, [], ◌∷◌, map, filter, find, take, Option, unwrap_or, is_none, is_some, if◌then◌else◌, ◌&&◌, ◌||◌, pos}
use Rattle.std.specs.List.{list_any}
use Rattle.std.specs.Option.{option_copied, option_or, option_and_then, option_map_or}
use Rattle.lv_base.specs.declared.number.Fixed.{Fixed}
use Rattle.triple_store.specs.declared.term.Term.{Term}
use Rattle.triple_store.specs.declared.term.Triple.{Triple}
use Rattle.vocabulary.specs.declared.word.Word.{Word}
use Rattle.vocabulary.specs.declared.word.Word.TheVariants.{RdfType, Lv2Index, Lv2Symbol, Lv2Name, Lv2InputPort, Lv2OutputPort, Lv2AudioPort, Lv2CvPort, Lv2ControlPort, Lv2PortProperty, Lv2ConnectionOptional, Lv2Designation, Lv2Control, Lv2Default, Lv2Minimum, Lv2Maximum, AtomAtomPort, AtomSupports, PatchMessage, RszMinimumSize}
use Rattle.plugin_decl.specs.declared.breaches.Breaches.{Breaches}
use Rattle.plugin_decl.specs.declared.declaration.Port.{Port}
use Rattle.plugin_decl.specs.declared.declaration.PortKind.{PortKind}
use Rattle.plugin_decl.specs.declared.declaration.PortKind.TheVariants.{Audio, Cv, Control, Atom, Unsupported}
use Rattle.plugin_decl.specs.declared.first_two.FirstTwo.{FirstTwo}
use Rattle.plugin_decl.specs.declared.first_two.FirstTwo.TheVariants.{Neither, One, Both}
use Rattle.plugin_decl.specs.declared.port_facts.Bounds.{Bounds}
use Rattle.plugin_decl.specs.declared.port_facts.Classes.{Classes}
use Rattle.plugin_decl.specs.declared.port_facts.PortFacts.{PortFacts}
use Rattle.plugin_decl.specs.declared.port_facts.PortName.{PortName}
use Rattle.plugin_decl.specs.Naming.{names}
use Rattle.plugin_decl.specs.Objects.{object, first, only}
use Rattle.plugin_decl.specs.PortRules.{is_symbol, is_lone, is_above, is_unsupported, lacks_symbol, lacks_name, lacks_direction, has_two_directions, lacks_class, has_bad_value}
use Rattle.plugin_decl.specs.Ports.{room_by}
use Rattle.plugin_decl.specs.Values.{text_in, is_literal, is_untagged, natural_in, value_in}

-- ---- what is kept

abbrev pub two_of : FirstTwo → List Term
two_of Neither = []
two_of (One first) = first.now ∷ []
two_of (Both first second) = first.now ∷ second.now ∷ []

-- the objects of those rows that have a predicate
abbrev pub told : List Triple → Word → List Term
told rows predicate = map object (filter (λ (row : Triple). names predicate row.p) rows)

-- the facts of a port, by the objects that it has for each predicate
pub record AreFacts (objects : Word → List Term) (facts : PortFacts) : Type 0 where
  pub index : two_of facts.index ≡ take 2 (objects Lv2Index)
  pub symbol : two_of facts.symbol ≡ take 2 (objects Lv2Symbol)
  pub size : two_of facts.size ≡ take 2 (objects RszMinimumSize)
  pub default : two_of facts.bounds.default ≡ take 2 (objects Lv2Default)
  pub minimum : two_of facts.bounds.minimum ≡ take 2 (objects Lv2Minimum)
  pub maximum : two_of facts.bounds.maximum ≡ take 2 (objects Lv2Maximum)
  pub untagged : option_copied facts.name.untagged ≡ find is_untagged (objects Lv2Name)
  pub literal : option_copied facts.name.literal ≡ find is_literal (objects Lv2Name)
  pub input : facts.classes.input ≡ list_any (names Lv2InputPort) (objects RdfType)
  pub output : facts.classes.output ≡ list_any (names Lv2OutputPort) (objects RdfType)
  pub audio : facts.classes.audio ≡ list_any (names Lv2AudioPort) (objects RdfType)
  pub cv : facts.classes.cv ≡ list_any (names Lv2CvPort) (objects RdfType)
  pub control : facts.classes.control ≡ list_any (names Lv2ControlPort) (objects RdfType)
  pub atom : facts.classes.atom ≡ list_any (names AtomAtomPort) (objects RdfType)
  pub optional : facts.uses.optional ≡ list_any (names Lv2ConnectionOptional) (objects Lv2PortProperty)
  pub designated : facts.uses.control ≡ list_any (names Lv2Control) (objects Lv2Designation)
  pub speaking : facts.uses.patch ≡ list_any (names PatchMessage) (objects AtomSupports)

-- ---- what it says

-- the text of the only symbol
abbrev pub symbol_by : PortFacts → Option (List ℕ)
symbol_by facts = option_and_then text_in (only (two_of facts.symbol))

-- the first name without a language tag, else the first
abbrev pub name_by : PortName → Option (List ℕ)
name_by name = option_and_then text_in (option_or (option_copied name.untagged) (option_copied name.literal))

-- the first of the four classes
abbrev pub kind_by : Classes → PortKind
kind_by classes =
    if classes.audio then Audio
    else (if classes.cv then Cv
    else (if classes.control then Control
    else (if classes.atom then Atom
    else Unsupported)))

-- the value of the first object
abbrev pub value_by : FirstTwo → Option Fixed
value_by two = option_and_then value_in (first (two_of two))

-- the default, else the minimum, else 0
abbrev pub first_value_by : Bounds → Fixed
first_value_by bounds = unwrap_or (value_by bounds.default) (unwrap_or (value_by bounds.minimum) (record { 0 = pos 0 }))

-- the bytes that the port asks for
abbrev pub asked_by : FirstTwo → ℕ
asked_by size = unwrap_or (option_and_then (natural_in 1048576) (first (two_of size))) 0

-- the port
unfoldable pub port_by : PortFacts → Port
port_by facts = record {
  index = unwrap_or (option_and_then (natural_in 255) (only (two_of facts.index))) 0;
  symbol = unwrap_or (symbol_by facts) [];
  name = unwrap_or (name_by facts.name) [];
  input = facts.classes.input;
  kind = kind_by facts.classes;
  optional = facts.uses.optional;
  first = first_value_by facts.bounds;
  least = value_by facts.bounds.minimum;
  most = value_by facts.bounds.maximum;
  room = room_by (kind_by facts.classes) (asked_by facts.size);
  control = facts.uses.control;
  patch = facts.uses.patch;
}

-- at most one value, which can be read
abbrev pub is_lone_value_by : FirstTwo → Bool
is_lone_value_by two = is_lone (λ term. is_some (value_in term)) (two_of two)

-- the values of a control port can be read, and its minimum isn't above its maximum
abbrev pub has_values_by : Bounds → Bool
has_values_by bounds =
    is_lone_value_by bounds.default && (is_lone_value_by bounds.minimum && (is_lone_value_by bounds.maximum
    && not (is_above (value_by bounds.minimum) (value_by bounds.maximum))))

-- at most one size, an integer from 0 to 1048576
abbrev pub is_lone_size_by : FirstTwo → Bool
is_lone_size_by two = is_lone (λ term. is_some (natural_in 1048576 term)) (two_of two)

-- control ports are judged by their values, atom ports by their size
abbrev pub lacks_value : PortKind → PortFacts → Bool
lacks_value Control facts = not (has_values_by facts.bounds)
lacks_value Atom facts = not (is_lone_size_by facts.size)
lacks_value Audio facts = false
lacks_value Cv facts = false
lacks_value Unsupported facts = false

-- the rules on one port alone that it breaks
unfoldable pub breaches_by : PortFacts → Breaches
breaches_by facts = record {
  symbol = not (option_map_or is_symbol (symbol_by facts) false);
  name = is_none (name_by facts.name);
  direction = not (facts.classes.input || facts.classes.output);
  one_direction = facts.classes.input && facts.classes.output;
  class = is_unsupported (kind_by facts.classes) && not facts.uses.optional;
  value = lacks_value (kind_by facts.classes) facts;
}

-- the same, by the triples
abbrev pub breaches_of : List Triple → Term → Breaches
breaches_of rows port = record {
  symbol = lacks_symbol rows port;
  name = lacks_name rows port;
  direction = lacks_direction rows port;
  one_direction = has_two_directions rows port;
  class = lacks_class rows port;
  value = has_bad_value rows port;
}
