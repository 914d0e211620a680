-- What breaks a rule at one port.
use Rattle.std.specs.Prelude.{ℕ, Bool, true, false, not, ◌&&◌, ◌||◌, ◌==◌, int_lt, List, [], ◌∷◌, Option, None, Some, is_some, is_none}
use Rattle.std.specs.Char.{is_ascii_digit}
use Rattle.std.specs.Int.{is_in_range}
use Rattle.std.specs.List.{list_all}
use Rattle.std.specs.Option.{option_map_or}
use Rattle.lv_base.specs.declared.number.Fixed.{Fixed}
use Rattle.triple_store.specs.declared.term.Term.{Term}
use Rattle.triple_store.specs.declared.term.Triple.{Triple}
use Rattle.plugin_decl.specs.declared.declaration.PortKind.{PortKind}
use Rattle.plugin_decl.specs.declared.declaration.PortKind.TheVariants.{Audio, Cv, Control, Atom, Unsupported}
use Rattle.vocabulary.specs.declared.word.Word.{Word}
use Rattle.vocabulary.specs.declared.word.Word.TheVariants.{Lv2Name, Lv2InputPort, Lv2OutputPort, Lv2Default, Lv2Minimum, Lv2Maximum, RszMinimumSize}
use Rattle.plugin_decl.specs.Objects.{objects_of, is_a}
use Rattle.plugin_decl.specs.Values.{name_in, natural_in, value_in}
use Rattle.plugin_decl.specs.Ports.{symbol_of, kind_of, is_optional, value_at}

-- `_` or a letter of ASCII
abbrev pub is_letter : ℕ → Bool
is_letter c = (c == 95) || (is_in_range 65 90 c || is_in_range 97 122 c)

abbrev pub is_symbol_byte : ℕ → Bool
is_symbol_byte c = is_letter c || is_ascii_digit c

-- a letter, and then letters and digits (LV2 core, lv2:symbol)
abbrev pub is_symbol : List ℕ → Bool
is_symbol [] = false
is_symbol (c ∷ text) = is_letter c && list_all is_symbol_byte text

-- it hasn't exactly one lv2:symbol, or that is no symbol
unfoldable pub lacks_symbol : List Triple → Term → Bool
lacks_symbol rows port = not (option_map_or is_symbol (symbol_of rows port) false)

-- it has no literal as lv2:name
unfoldable pub lacks_name : List Triple → Term → Bool
lacks_name rows port = is_none (name_in (objects_of rows port Lv2Name))

-- it is neither input nor output
unfoldable pub lacks_direction : List Triple → Term → Bool
lacks_direction rows port = not (is_a rows port Lv2InputPort || is_a rows port Lv2OutputPort)

-- it is both
unfoldable pub has_two_directions : List Triple → Term → Bool
has_two_directions rows port = is_a rows port Lv2InputPort && is_a rows port Lv2OutputPort

abbrev pub is_unsupported : PortKind → Bool
is_unsupported Unsupported = true
is_unsupported Audio = false
is_unsupported Cv = false
is_unsupported Control = false
is_unsupported Atom = false

-- it has no supported class, and may not be left unconnected
unfoldable pub lacks_class : List Triple → Term → Bool
lacks_class rows port = is_unsupported (kind_of rows port) && not (is_optional rows port)

-- there is none, or one alone, and that passes
abbrev pub is_lone : (Term → Bool) → List Term → Bool
is_lone passes [] = true
is_lone passes (x ∷ []) = passes x
is_lone passes (x ∷ y ∷ xs) = false

-- at most one value, which can be read
unfoldable pub is_lone_value : List Triple → Term → Word → Bool
is_lone_value rows port bound = is_lone (λ term. is_some (value_in term)) (objects_of rows port bound)

-- at most one size, an integer from 0 to 1048576
unfoldable pub is_lone_size : List Triple → Term → Bool
is_lone_size rows port = is_lone (λ term. is_some (natural_in 1048576 term)) (objects_of rows port RszMinimumSize)

-- a value above another, where there are both
abbrev pub is_above : Option Fixed → Option Fixed → Bool
is_above (Some a) (Some b) = int_lt b.0 a.0
is_above (Some a) None = false
is_above None b = false

-- a control port's values are read, and its minimum isn't above its maximum
unfoldable pub has_values : List Triple → Term → Bool
has_values rows port =
    is_lone_value rows port Lv2Default && (is_lone_value rows port Lv2Minimum && (is_lone_value rows port Lv2Maximum
    && not (is_above (value_at rows port Lv2Minimum) (value_at rows port Lv2Maximum))))

-- control ports are judged by their values, atom ports by their size
abbrev pub lacks_value_by : PortKind → List Triple → Term → Bool
lacks_value_by Control rows port = not (has_values rows port)
lacks_value_by Atom rows port = not (is_lone_size rows port)
lacks_value_by Audio rows port = false
lacks_value_by Cv rows port = false
lacks_value_by Unsupported rows port = false

unfoldable pub has_bad_value : List Triple → Term → Bool
has_bad_value rows port = lacks_value_by (kind_of rows port) rows port
