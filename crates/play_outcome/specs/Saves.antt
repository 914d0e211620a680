-- The states that a play saved.
use Rattle.std.specs.Prelude.{ℕ, suc, List, [], ◌∷◌, filter_map, slice_get, Option, option_map, option_and_then}
use Rattle.session_script.specs.declared.session.Action.{Action}
use Rattle.session_script.specs.declared.session.Inst.{Inst}
use Rattle.state_store.specs.declared.prop.Prop.{Prop}
use Rattle.state_file.specs.declared.saved.Saved.{Saved}
use Rattle.state_file.specs.StateText as text
use Rattle.play_outcome.specs.Endings.{saved_by}
use Rattle.session_play.specs.Looking.{urids_of}
use Rattle.session_play.specs.Run.{Run, with_properties}
use Rattle.graph_order.specs.declared.setup.Setup.{Setup}
use Rattle.session_play.specs.Value.{Play}

-- properties with the name of the instance and the URI of its plug-in
abbrev pub saved_from : List (ℕ × Prop) → Inst → Saved
saved_from properties inst = record { name = inst.name; uri = inst.uri; props = properties }

abbrev pub saved_as : Setup → ℕ → List (ℕ × Prop) → Option Saved
saved_as setup inst properties = option_map (saved_from properties) (slice_get setup.session.insts inst)

-- what each of these actions saved, from a number on, in order of the session
abbrev pub saves_from : {F B : Type 0} → Setup → Play F B → ℕ → List Action → List (Option Saved)
saves_from setup p action [] = []
saves_from setup p action (it ∷ later) = option_and_then (saved_as setup it.inst) (saved_by p action) ∷ saves_from setup p (suc action) later

abbrev pub saves_of : {F B : Type 0} → Setup → Play F B → List Saved
saves_of setup p = filter_map (λ (it : Option Saved). it) (saves_from setup p 0 setup.session.actions)

-- the URIs that have numbers once all instances were made and the properties that actions name have theirs
abbrev pub numbered : {F B : Type 0} → Run F B → Play F B → List (List ℕ)
numbered run p = with_properties run.setup (urids_of run.held p)

-- the text of the states
abbrev pub state_text : {F B : Type 0} → Run F B → Play F B → List ℕ
state_text run p = text.state_text (numbered run p) (saves_of run.setup p)
