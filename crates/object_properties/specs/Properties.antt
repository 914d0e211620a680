-- The properties that stand in bytes (LV2 atom, `LV2_Atom_Property_Body`), as what is read of them.
use Rattle.std.specs.Prelude.{ℕ, List, length}
use Rattle.object_properties.specs.declared.property.Property.{Property as Read}
use Rattle.session_play.specs.Patch.{Property, properties_within}

-- what was read, as a property
abbrev pub seen : Read → Property
seen it = record { key = it.key; kind = it.kind; body = it.body.now }

-- all that stand in these bytes
unfoldable pub properties_in : List ℕ → List Property
properties_in bytes = properties_within (length bytes) bytes
