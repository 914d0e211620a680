-- The shelf that a plug-in stores its state on.
use Rattle.std.specs.Prelude.{ℕ, Bool, not, ◌&&◌, if◌then◌else◌, List}
use Rattle.state_store.specs.Properties.{with_property, fit, is_mapped, are_flags}
use Rattle.state_store.specs.declared.prop.Prop.{Prop}
use Rattle.state_store.specs.declared.status.TheConstants.{SUCCESS, BAD_TYPE, BAD_FLAGS, NO_SPACE}

-- the properties on a shelf, and how many URIs had numbers when it was made
pub record Shelved : Type 0 where
  pub mapped : ℕ
  pub rows : List (ℕ × Prop)

-- a value of a property
abbrev pub value_of : ℕ → ℕ → List ℕ → Prop
value_of kind flags bytes = record { kind = kind; flags = flags; bytes = bytes }

-- what storing a property answers (LV2_State_Status)
abbrev pub status_of : Shelved → ℕ → Prop → ℕ
status_of shelf key prop =
    if not (is_mapped shelf.mapped key && is_mapped shelf.mapped prop.kind) then BAD_TYPE
    else if not (are_flags prop.flags) then BAD_FLAGS
    else if not (fit (with_property shelf.rows key prop)) then NO_SPACE else SUCCESS
