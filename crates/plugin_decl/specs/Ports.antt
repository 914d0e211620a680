-- What is declared of a port: each field by the triples whose subject it is (LV2 core, atom, patch and resize-port).
use Rattle.std.specs.Prelude.{ℕ, ◌+◌, ◌*◌, ◌/◌, max, Bool, if◌then◌else◌, pos, List, [], Option, unwrap_or}
use Rattle.std.specs.Option.{option_and_then}
use Rattle.lv_base.specs.declared.number.Fixed.{Fixed}
use Rattle.triple_store.specs.declared.term.Term.{Term}
use Rattle.triple_store.specs.declared.term.Triple.{Triple}
use Rattle.plugin_decl.specs.declared.declaration.Port.{Port}
use Rattle.plugin_decl.specs.declared.declaration.PortKind.{PortKind}
use Rattle.plugin_decl.specs.declared.declaration.PortKind.TheVariants.{Audio, Cv, Control, Atom, Unsupported}
use Rattle.vocabulary.specs.declared.word.Word.{Word}
use Rattle.vocabulary.specs.declared.word.Word.TheVariants.{Lv2Index, Lv2Symbol, Lv2Name, Lv2InputPort, Lv2AudioPort, Lv2CvPort, Lv2ControlPort, Lv2PortProperty, Lv2ConnectionOptional, Lv2Designation, Lv2Control, Lv2Default, Lv2Minimum, Lv2Maximum, AtomAtomPort, AtomSupports, PatchMessage, RszMinimumSize}
use Rattle.plugin_decl.specs.Objects.{objects_of, has, is_a, first, only}
use Rattle.plugin_decl.specs.Values.{text_in, name_in, natural_in, value_in}

-- the only lv2:index, an integer from 0 to 255
unfoldable pub index_of : List Triple → Term → Option ℕ
index_of rows port = option_and_then (natural_in 255) (only (objects_of rows port Lv2Index))

-- the text of the only lv2:symbol
unfoldable pub symbol_of : List Triple → Term → Option (List ℕ)
symbol_of rows port = option_and_then text_in (only (objects_of rows port Lv2Symbol))

-- the first of the four classes
unfoldable pub kind_of : List Triple → Term → PortKind
kind_of rows port =
    if is_a rows port Lv2AudioPort then Audio
    else (if is_a rows port Lv2CvPort then Cv
    else (if is_a rows port Lv2ControlPort then Control
    else (if is_a rows port AtomAtomPort then Atom
    else Unsupported)))

-- it may be left unconnected
abbrev pub is_optional : List Triple → Term → Bool
is_optional rows port = has rows port Lv2PortProperty Lv2ConnectionOptional

-- the value of the first lv2:default, lv2:minimum or lv2:maximum
unfoldable pub value_at : List Triple → Term → Word → Option Fixed
value_at rows port bound = option_and_then value_in (first (objects_of rows port bound))

-- the default, else the minimum, else 0
unfoldable pub first_value : List Triple → Term → Fixed
first_value rows port = unwrap_or (value_at rows port Lv2Default) (unwrap_or (value_at rows port Lv2Minimum) (record { 0 = pos 0 }))

-- the first rsz:minimumSize, an integer from 0 to 1048576
unfoldable pub stated_size : List Triple → Term → Option ℕ
stated_size rows port = option_and_then (natural_in 1048576) (first (objects_of rows port RszMinimumSize))

-- the bytes that a port asks for
abbrev pub asked_size : List Triple → Term → ℕ
asked_size rows port = unwrap_or (stated_size rows port) 0

-- at least 4096 bytes, rounded up to 8
abbrev pub buffer_size : ℕ → ℕ
buffer_size asked = (max 4096 asked + 7) / 8 * 8

-- the bytes of a port's buffer: atom ports have one
abbrev pub room_by : PortKind → ℕ → ℕ
room_by Atom asked = buffer_size asked
room_by Audio asked = 0
room_by Cv asked = 0
room_by Control asked = 0
room_by Unsupported asked = 0

-- a port, by the term that it is; a missing symbol or name is empty
unfoldable pub port_of : List Triple → Term → Port
port_of rows port = record {
  index = unwrap_or (index_of rows port) 0;
  symbol = unwrap_or (symbol_of rows port) [];
  name = unwrap_or (name_in (objects_of rows port Lv2Name)) [];
  input = is_a rows port Lv2InputPort;
  kind = kind_of rows port;
  optional = is_optional rows port;
  first = first_value rows port;
  least = value_at rows port Lv2Minimum;
  most = value_at rows port Lv2Maximum;
  room = room_by (kind_of rows port) (asked_size rows port);
  control = has rows port Lv2Designation Lv2Control;
  patch = has rows port AtomSupports PatchMessage;
}
