-- The plan of a session whose instances are declared, or what stands against it.
use Rattle.std.specs.Prelude.{◌≡◌, ◌≢◌, ◌⊎◌, ℕ, List, [], slice_get, Option, Result, Ok, Err}
use Rattle.std.specs.List.{filter_map}
use Rattle.std.specs.Option.{option_map}
use Rattle.plugin_decl.specs.declared.declaration.Decl.{Decl}
use Rattle.session_script.specs.declared.session.Inst.{Inst}
use Rattle.session_script.specs.declared.session.Session.{Session}
use Rattle.session_load.specs.declared.fault.LoadFault.TheVariants.{NoMemory}
use Rattle.graph_order.specs.declared.fault.GraphFault.{GraphFault}
use Rattle.graph_order.specs.declared.fault.GraphFault.TheVariants as graph
use Rattle.graph_order.specs.declared.plan.Plan.{Plan}
use Rattle.graph_order.specs.Answer.{IsPlanOf, IsFirstFault}
use Rattle.session_setup.specs.declared.fault.SetupFault.{SetupFault}
use Rattle.session_setup.specs.declared.fault.SetupFault.TheVariants.{Load, Script, Undeclared, Graph}

-- the name of an instance
abbrev pub name_at : List Inst → ℕ → Option (List ℕ)
name_at insts inst = option_map (λ (one : Inst). one.name) (slice_get insts inst)

-- the names of the instances of a cycle, in its order; a fault of a line names none
abbrev pub cycle_names : List Inst → GraphFault → List (List ℕ)
cycle_names insts (graph.Cycle cycle) = filter_map (name_at insts) cycle
cycle_names insts (graph.NoPort line) = []
cycle_names insts (graph.Direction line) = []
cycle_names insts (graph.Kind line) = []
cycle_names insts (graph.NoPatch line) = []
cycle_names insts (graph.NoState line) = []
cycle_names insts graph.NoMemory = []

-- the plan, or the first line that breaks a rule, or the cycle
abbrev pub Plans : Session → List Decl → Result Plan SetupFault → Type 0
Plans session decls (Ok plan) = IsPlanOf session decls plan
Plans session decls (Err (Graph fault names)) = IsFirstFault session decls fault × (names ≡ cycle_names session.insts fault)
Plans session decls (Err (Load fault)) = ⊥
Plans session decls (Err (Script fault)) = ⊥
Plans session decls (Err (Undeclared uri fault)) = ⊥

-- a fault of the graph is told with these names, or memory was refused
abbrev pub TellsOfGraph : List Inst → GraphFault → SetupFault → Type 0
TellsOfGraph insts fault told = (told ≡ Load NoMemory) ⊎ ((fault ≢ graph.NoMemory) × (told ≡ Graph fault (cycle_names insts fault)))
