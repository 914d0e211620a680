-- What the rules of a record need to know of a setup.
use Rattle.std.specs.Prelude.{ℕ, suc, ◌+◌, ◌%◌, Bool, false, if◌then◌else◌, List, [], ◌∷◌, map, is_some, Option, unwrap_or}
use Rattle.std.specs.Option.{option_map_or}
use Rattle.plugin_decl.specs.declared.declaration.Decl.{Decl}
use Rattle.session_script.specs.declared.session.Action.{Action}
use Rattle.session_script.specs.declared.session.Deed.{Deed}
use Rattle.session_script.specs.declared.session.Deed.TheVariants as deed
use Rattle.session_script.specs.declared.session.Inst.{Inst}
use Rattle.record_law.specs.declared.shape.ActionKind.{ActionKind}
use Rattle.record_law.specs.declared.shape.ActionKind.TheVariants.{Set, Patch, Save, RestoreSafe, Restore}
use Rattle.record_law.specs.declared.shape.Shape.{Shape}
use Rattle.record_law.specs.declared.shape.ShapeAction.{ShapeAction}
use Rattle.record_law.specs.declared.shape.ShapeInst.{ShapeInst}
use Rattle.graph_order.specs.declared.setup.Setup.{Setup}
use Rattle.session_play.specs.Setup.{decl_of, reply_port}

-- it declares that it schedules work (LV2 worker, work:interface)
abbrev pub works : Setup → ℕ → Bool
works setup inst = option_map_or (λ (decl : Decl). decl.worker) (decl_of setup inst) false

-- its state can be restored while it runs (LV2 state, state:threadSafeRestore)
abbrev pub is_safe : Setup → ℕ → Bool
is_safe setup inst = option_map_or (λ (decl : Decl). decl.safe) (decl_of setup inst) false

-- it belongs to the worker that its line names, else to the workers in turn
abbrev pub worker_for : Setup → ℕ → Option ℕ → ℕ
worker_for setup inst named = unwrap_or named (inst % setup.session.workers + 1)

abbrev pub inst_from : Setup → ℕ → Inst → ShapeInst
inst_from setup inst it = record { worker = worker_for setup inst it.worker; works = works setup inst; replies = is_some (reply_port setup inst) }

-- the instances from one on
abbrev pub insts_from : Setup → ℕ → List Inst → List ShapeInst
insts_from setup inst [] = []
insts_from setup inst (it ∷ later) = inst_from setup inst it ∷ insts_from setup (suc inst) later

abbrev pub kind_of : Bool → Deed → ActionKind
kind_of safe (deed.Set symbol value) = Set
kind_of safe (deed.PatchFixed property value) = Patch
kind_of safe (deed.PatchInt property value) = Patch
kind_of safe (deed.PatchGet property) = Patch
kind_of safe deed.Save = Save
kind_of safe (deed.Restore path place) = if safe then RestoreSafe else Restore

abbrev pub action_from : Setup → Action → ShapeAction
action_from setup it = record { block = it.block; kind = kind_of (is_safe setup it.inst) it.deed; inst = it.inst }

abbrev pub shape_of : Setup → Shape
shape_of setup = record {
  blocks = setup.session.blocks;
  cells = setup.session.cells;
  workers = setup.session.workers;
  plan = setup.plan.order;
  insts = insts_from setup 0 setup.session.insts;
  actions = map (action_from setup) setup.session.actions;
}
