-- From the first broken line and the wiring to what `order` answers.
use Rattle.std.proofs.Common.{◌≡◌, ℕ, List, length, Option, None, Some, Result, Ok, Err, sym, subst, inl, inr, refl}
use Rattle.std.specs.Result.{IfOk, IfErr}
use Rattle.plugin_decl.specs.declared.declaration.Decl.{Decl}
use Rattle.session_script.specs.declared.session.CableLine.{CableLine}
use Rattle.session_script.specs.declared.session.Session.{Session}
use Rattle.graph_order.specs.declared.fault.GraphFault.{GraphFault}
use Rattle.graph_order.specs.declared.fault.GraphFault.TheVariants.{NoPort, Direction, Kind, NoPatch, NoState, Cycle, NoMemory}
use Rattle.graph_order.specs.declared.lines.Broken.{Broken}
use Rattle.graph_order.specs.declared.plan.Plan.{Plan}
use Rattle.graph_order.specs.Lines.{first_broken}
use Rattle.graph_order.specs.Wiring.{AreWithin}
use Rattle.graph_order.specs.Plans as plans
use Rattle.graph_order.specs.Answer.{IsPlanOf, IsFaultOf, IsFirstFault, IsCause, IsPlanOrNoMemory, IsFaultOrNoMemory, fault_at, Wires}
use Rattle.graph_order.proofs.Growing.{lawful}
use Rattle.graph_order.proofs.Laws.{one-plan, one-fault, no-cycle}

-- a broken line's fault
pub broken-err : (session : Session) (decls : List Decl) (broken : Broken) → first_broken session decls ≡ Some broken → IsCause session decls (fault_at broken.rule broken.line)
broken-err session decls broken is =
    let Fault : Option Broken → Type 0 = λ b. IsFaultOf b session.cables (fault_at broken.rule broken.line) in
    inr (subst Fault (sym is) refl)

pub broken-planned : (session : Session) (decls : List Decl) (broken : Broken) → first_broken session decls ≡ Some broken → (plan : Plan) → IsPlanOf session decls plan → IsPlanOrNoMemory plan (Err (fault_at broken.rule broken.line))
broken-planned session decls broken is plan planned = absurd (let kept = planned.kept in cc)

pub broken-refused : (session : Session) (decls : List Decl) (broken : Broken) → first_broken session decls ≡ Some broken → (fault : GraphFault) → IsFirstFault session decls fault → IsFaultOrNoMemory fault (Err (fault_at broken.rule broken.line))
broken-refused session decls broken is fault first =
    let Fault : Option Broken → Type 0 = λ b. IsFaultOf b session.cables fault in
    inl (sym (subst Fault is first))

-- the wiring's plan or cycle
pub wired-plan : (session : Session) (decls : List Decl) (wired : Result Plan GraphFault) → first_broken session decls ≡ None → Wires session.cables (length session.insts) wired → IfOk wired (IsPlanOf session decls)
wired-plan session decls (Ok plan) kept is = record { kept = kept; plan = is }
wired-plan session decls (Err fault) kept is = tt

pub wired-lawful : (cables : List CableLine) (count : ℕ) (wired : Result Plan GraphFault) → AreWithin count cables → Wires cables count wired → IfOk wired (plans.IsLawful cables count)
wired-lawful cables count (Ok plan) within is = lawful cables count plan within is
wired-lawful cables count (Err fault) within is = tt

pub wired-err : (session : Session) (decls : List Decl) (wired : Result Plan GraphFault) → first_broken session decls ≡ None → Wires session.cables (length session.insts) wired → IfErr wired (IsCause session decls)
wired-err session decls (Ok plan) kept is = tt
wired-err session decls (Err fault) kept (inl short) = inl short
wired-err session decls (Err fault) kept (inr first) =
    let Fault : Option Broken → Type 0 = λ b. IsFaultOf b session.cables fault in
    inr (subst Fault (sym kept) first)

-- a plan and a fault don't go together
pub not-both : (cables : List CableLine) (count : ℕ) (plan : Plan) (fault : GraphFault) → AreWithin count cables → plans.IsPlanOf cables count plan → IsFaultOf None cables fault → ⊥
not-both cables count plan (Cycle cycle) within is first = no-cycle cables count plan (lawful cables count plan within is) cycle first.cycle
not-both cables count plan (NoPort line) within is first = first
not-both cables count plan (Direction line) within is first = first
not-both cables count plan (Kind line) within is first = first
not-both cables count plan (NoPatch line) within is first = first
not-both cables count plan (NoState line) within is first = first
not-both cables count plan NoMemory within is first = first

pub not-both-of : (session : Session) (decls : List Decl) (plan : Plan) (fault : GraphFault) → AreWithin (length session.insts) session.cables → IsPlanOf session decls plan → IsFirstFault session decls fault → ⊥
not-both-of session decls plan fault within planned first =
    let Fault : Option Broken → Type 0 = λ b. IsFaultOf b session.cables fault in
    not-both session.cables (length session.insts) plan fault within planned.plan (subst Fault planned.kept first)

pub wired-planned : (session : Session) (decls : List Decl) (wired : Result Plan GraphFault) → AreWithin (length session.insts) session.cables → Wires session.cables (length session.insts) wired → (plan : Plan) → IsPlanOf session decls plan → IsPlanOrNoMemory plan wired
wired-planned session decls (Ok made) within is plan planned = one-plan session.cables (length session.insts) made plan is planned.plan
wired-planned session decls (Err fault) within (inl short) plan planned = short
wired-planned session decls (Err fault) within (inr first) plan planned = absurd (not-both session.cables (length session.insts) plan fault within planned.plan first)

pub refused-by : (cables : List CableLine) (count : ℕ) (wired : Result Plan GraphFault) → AreWithin count cables → Wires cables count wired → (fault : GraphFault) → IsFaultOf None cables fault → IsFaultOrNoMemory fault wired
refused-by cables count (Ok plan) within is fault first = not-both cables count plan fault within is first
refused-by cables count (Err made) within (inl short) fault first = inr short
refused-by cables count (Err made) within (inr other) fault first = inl (one-fault None cables made fault other first)

pub wired-refused : (session : Session) (decls : List Decl) (wired : Result Plan GraphFault) → first_broken session decls ≡ None → AreWithin (length session.insts) session.cables → Wires session.cables (length session.insts) wired → (fault : GraphFault) → IsFirstFault session decls fault → IsFaultOrNoMemory fault wired
wired-refused session decls wired kept within is fault first =
    let Fault : Option Broken → Type 0 = λ b. IsFaultOf b session.cables fault in
    refused-by session.cables (length session.insts) wired within is fault (subst Fault kept first)

-- the wiring of a session
pub wires-at : (session : Session) (cables : List CableLine) (count : ℕ) (wired : Result Plan GraphFault) → cables ≡ session.cables → count ≡ length session.insts → Wires cables count wired → Wires session.cables (length session.insts) wired
wires-at session cables count wired same all is =
    let Cables : List CableLine → Type 0 = λ cs. Wires cs count wired in
    let Count : ℕ → Type 0 = λ n. Wires session.cables n wired in
    subst Count all (subst Cables same is)
