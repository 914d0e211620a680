-- What `order` answers: a plan, or the first thing that stands against it.
use Rattle.std.specs.Prelude.{◌≡◌, ◌⊎◌, ℕ, List, length, Option, None, Some, Result, Ok, Err}
use Rattle.plugin_decl.specs.declared.declaration.Decl.{Decl}
use Rattle.session_script.specs.declared.session.CableLine.{CableLine}
use Rattle.session_script.specs.declared.session.Session.{Session}
use Rattle.graph_order.specs.declared.fault.GraphFault.{GraphFault}
use Rattle.graph_order.specs.declared.fault.GraphFault.TheVariants.{NoPort, Direction, Kind, NoPatch, NoState, Cycle, NoMemory}
use Rattle.graph_order.specs.declared.lines.LineRule.{LineRule}
use Rattle.graph_order.specs.declared.lines.LineRule.TheVariants as rules
use Rattle.graph_order.specs.declared.lines.Broken.{Broken}
use Rattle.graph_order.specs.declared.plan.Plan.{Plan}
use Rattle.graph_order.specs.Lines.{first_broken}
use Rattle.graph_order.specs.Plans as plans
use Rattle.graph_order.specs.Cycles.{IsFirstCycle}

-- no line breaks a rule, and this is the plan of the cables
pub record IsPlanOf (session : Session) (decls : List Decl) (found : Plan) : Type 0 where
  pub kept : first_broken session decls ≡ None
  pub plan : plans.IsPlanOf session.cables (length session.insts) found

-- the fault of a line that breaks a rule
abbrev pub fault_at : LineRule → ℕ → GraphFault
fault_at rules.NoPort line = NoPort line
fault_at rules.Direction line = Direction line
fault_at rules.Kind line = Kind line
fault_at rules.NoPatch line = NoPatch line
fault_at rules.NoState line = NoState line

-- the fault of the line that breaks a rule, or the cycle where none does
abbrev pub IsFaultOf : Option Broken → List CableLine → GraphFault → Type 0
IsFaultOf (Some broken) cables fault = fault ≡ fault_at broken.rule broken.line
IsFaultOf None cables (Cycle cycle) = IsFirstCycle cables cycle
IsFaultOf None cables (NoPort line) = ⊥
IsFaultOf None cables (Direction line) = ⊥
IsFaultOf None cables (Kind line) = ⊥
IsFaultOf None cables (NoPatch line) = ⊥
IsFaultOf None cables (NoState line) = ⊥
IsFaultOf None cables NoMemory = ⊥

-- why there is no plan. Nothing in a session causes want of memory
abbrev pub IsFirstFault : Session → List Decl → GraphFault → Type 0
IsFirstFault session decls fault = IsFaultOf (first_broken session decls) session.cables fault

-- a session has a plan, or a fault stands against it
abbrev pub HasAnswer : Session → List Decl → Type 0
HasAnswer session decls = ((plan : Plan) × IsPlanOf session decls plan) ⊎ ((fault : GraphFault) × IsFirstFault session decls fault)

-- memory is short, or the fault is the first
abbrev pub IsCause : Session → List Decl → GraphFault → Type 0
IsCause session decls fault = (fault ≡ NoMemory) ⊎ IsFirstFault session decls fault

-- this plan, unless memory was refused
abbrev pub IsPlanOrNoMemory : Plan → Result Plan GraphFault → Type 0
IsPlanOrNoMemory plan (Ok made) = made ≡ plan
IsPlanOrNoMemory plan (Err fault) = fault ≡ NoMemory

-- this fault, unless memory was refused
abbrev pub IsFaultOrNoMemory : GraphFault → Result Plan GraphFault → Type 0
IsFaultOrNoMemory wanted (Ok made) = ⊥
IsFaultOrNoMemory wanted (Err fault) = (fault ≡ wanted) ⊎ (fault ≡ NoMemory)

-- the plan of some cables, or the cycle that is told
abbrev pub Wires : List CableLine → ℕ → Result Plan GraphFault → Type 0
Wires cables count (Ok plan) = plans.IsPlanOf cables count plan
Wires cables count (Err fault) = (fault ≡ NoMemory) ⊎ IsFaultOf None cables fault
