-- What is run: a setup, what the calls of the codes mean, and the URIs that have numbers before the first instance is made.
use Rattle.std.specs.Prelude.{ℕ, Bool, true, false, List, [], flat_map, filter, length, take, pos, slice_index_or}
use Rattle.plugin_decl.specs.declared.options.Options.{Options}
use Rattle.session_script.specs.declared.session.Action.{Action}
use Rattle.session_script.specs.declared.session.Deed.{Deed}
use Rattle.session_script.specs.declared.session.Deed.TheVariants.{Set, PatchFixed, PatchInt, PatchGet, Save, Restore}
use Rattle.state_store.specs.declared.prop.Prop.{Prop}
use Rattle.urid_map.specs.Numbers.{with_uris}
use Rattle.plug_api.specs.Meaning.{FrontMeaning, BackMeaning, CodesMeaning}
use Rattle.session_play.specs.Patch.{named_in}
use Rattle.graph_order.specs.declared.setup.Setup.{Setup}

pub record Run (F B : Type 0) : Type 0 where
  pub setup : Setup
  pub codes : CodesMeaning F B
  pub fronts : FrontMeaning F
  pub backs : BackMeaning B
  pub held : List (List ℕ)

-- what an instance is told of the block's length (LV2 buf-size)
abbrev pub options_for : Setup → Options
options_for setup = record { most = pos setup.session.block; least = pos setup.session.block }

-- the URIs that have numbers once the properties that actions name have theirs, too
abbrev pub with_properties : Setup → List (List ℕ) → List (List ℕ)
with_properties setup urids = with_uris urids (flat_map (λ (it : Action). named_in it.deed) setup.session.actions)

abbrev pub is_restore : Deed → Bool
is_restore (Restore path place) = true
is_restore (Set symbol value) = false
is_restore (PatchFixed property value) = false
is_restore (PatchInt property value) = false
is_restore (PatchGet property) = false
is_restore Save = false

-- the properties that an action restores: each restore of a session brings its own
abbrev pub state_for : Setup → ℕ → List (ℕ × Prop)
state_for setup action = slice_index_or setup.states (length (filter (λ (it : Action). is_restore it.deed) (take action setup.session.actions))) []
