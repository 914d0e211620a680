-- The text of a state file: a Turtle document (Turtle 1.1) over the vocabulary of LV2's state extension and this host's own.
use Rattle.std.specs.Prelude.{ℕ, ◌+◌, List, [], ◌∷◌, ◌++◌, map, codes, decimal, Option, None, Some}
use Rattle.base64.specs.Engines.{standard}
use Rattle.base64.specs.GeneralPurpose.{encode_of}
use Rattle.state_store.specs.Properties.{held}
use Rattle.state_store.specs.declared.prop.Prop.{Prop}
use Rattle.state_file.specs.Order.{uri_text, in_order}
use Rattle.state_file.specs.declared.saved.Saved.{Saved}

-- the prefixes that the states use
abbrev pub prefixes : List ℕ
prefixes = codes "@prefix state: <http://lv2plug.in/ns/ext/state#> .\n@prefix fx: <urn:lv2fx:> .\n"

-- the type of a value and its flags
abbrev pub type_text : List (List ℕ) → Prop → List ℕ
type_text urids prop = codes "[ fx:type <" ++ (uri_text urids prop.kind ++ (codes "> ; fx:flags " ++ decimal prop.flags))

-- its bytes, in base64 (RFC 4648, section 4)
abbrev pub bytes_text : Prop → List ℕ
bytes_text prop = codes " ; fx:bytes \"" ++ (encode_of standard prop.bytes ++ codes "\" ]")

abbrev pub value_text : List (List ℕ) → Prop → List ℕ
value_text urids prop = type_text urids prop ++ bytes_text prop

-- a value that may be missing
abbrev pub held_text : List (List ℕ) → Option Prop → List ℕ
held_text urids None = []
held_text urids (Some prop) = value_text urids prop

-- a property: the URI of its key, and its value
abbrev pub property_text : List (List ℕ) → List (ℕ × Prop) → ℕ → List ℕ
property_text urids rows key = codes "\t\t<" ++ (uri_text urids key ++ (codes "> " ++ held_text urids (held rows key)))

-- what ends the line of a property, by those that follow
abbrev pub line_end : List ℕ → List ℕ
line_end [] = codes "\n"
line_end (next ∷ keys) = codes " ;\n"

-- the line of a property, where these keys follow
abbrev pub line_text : List (List ℕ) → List (ℕ × Prop) → ℕ → List ℕ → List ℕ
line_text urids rows key keys = property_text urids rows key ++ line_end keys

-- a line for each of these keys
abbrev pub properties_text : List (List ℕ) → List (ℕ × Prop) → List ℕ → List ℕ
properties_text urids rows [] = []
properties_text urids rows (key ∷ keys) = line_text urids rows key keys ++ properties_text urids rows keys

-- the number of a state, and the name of the instance
abbrev pub name_text : ℕ → List ℕ → List ℕ
name_text number name = codes "\n<#save" ++ (decimal number ++ (codes "> a fx:Saved ;\n\tfx:name \"" ++ name))

-- the URI of its plug-in
abbrev pub plugin_text : List ℕ → List ℕ
plugin_text uri = codes "\" ;\n\tfx:plugin <" ++ (uri ++ codes "> ;\n\tstate:state [\n")

abbrev pub head_text : ℕ → Saved → List ℕ
head_text number saved = name_text number saved.name ++ plugin_text saved.uri

-- a state, after an empty line
abbrev pub saved_text : List (List ℕ) → ℕ → Saved → List ℕ
saved_text urids number saved =
    head_text number saved ++ (properties_text urids saved.props (in_order urids (map (λ row. row.0) saved.props)) ++ codes "\t] .\n")

-- states from a number on
abbrev pub states_text : List (List ℕ) → ℕ → List Saved → List ℕ
states_text urids number [] = []
states_text urids number (saved ∷ saves) = saved_text urids number saved ++ states_text urids (number + 1) saves

-- the whole file
abbrev pub state_text : List (List ℕ) → List Saved → List ℕ
state_text urids saves = prefixes ++ states_text urids 0 saves
