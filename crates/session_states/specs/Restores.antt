-- The states that the actions of a session restore, and the files that have them.
use Rattle.std.specs.Prelude.{ℕ, List, [], map, Option, None, Some, option_map, unwrap_or, slice_get}
use Rattle.std.specs.List.{filter_map}
use Rattle.session_load.specs.Names.{each_once}
use Rattle.session_script.specs.declared.session.Action.{Action}
use Rattle.session_script.specs.declared.session.Deed.{Deed}
use Rattle.session_script.specs.declared.session.Deed.TheVariants as deed
use Rattle.session_script.specs.declared.session.Inst.{Inst}
use Rattle.session_script.specs.declared.session.Session.{Session}
use Rattle.session_states.specs.declared.restore.Restore.{Restore}

-- the URI of an instance's plug-in; no URI of an instance that isn't there, which no session names
abbrev pub uri_of : List Inst → ℕ → List ℕ
uri_of insts inst = unwrap_or (option_map (λ (it : Inst). it.uri) (slice_get insts inst)) []

-- what is restored by something that is done to an instance
abbrev pub restore_by : List Inst → ℕ → Deed → Option Restore
restore_by insts inst (deed.Restore path place) = Some (record { path = path; place = place; uri = uri_of insts inst })
restore_by insts inst (deed.Set symbol value) = None
restore_by insts inst (deed.PatchFixed property value) = None
restore_by insts inst (deed.PatchInt property value) = None
restore_by insts inst (deed.PatchGet property) = None
restore_by insts inst deed.Save = None

-- what an action restores, if it does
abbrev pub restore_of : List Inst → Action → Option Restore
restore_of insts action = restore_by insts action.inst action.deed

-- the restores of a session, in order of its actions
abbrev pub restores_of : Session → List Restore
restores_of session = filter_map (restore_of session.insts) session.actions

abbrev pub path_in : Restore → List ℕ
path_in restore = restore.path

-- the files that restores name, each once, in order of first use
abbrev pub paths_in : List Restore → List (List ℕ)
paths_in restores = each_once [] (map path_in restores)
