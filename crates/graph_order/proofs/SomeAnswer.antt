-- A session has an answer.
use Rattle.std.proofs.Common.{◌≡◌, ◌⊎◌, ℕ, zero, suc, ◌<◌, ◌+◌, Bool, true, false, ◌&&◌, List, [], ◌∷◌, ◌++◌, length, set, replicate, Option, None, Some, sym, ◌∙◌, ap, subst, inl, inr, refl, arith}
use Rattle.std.proofs.lemmas.Bool.{and_parts, and_from, cases_Bool, cases_order, cases_lt}
use Rattle.std.proofs.lemmas.List.{length_push}
use Rattle.plugin_decl.specs.declared.declaration.Decl.{Decl}
use Rattle.session_script.specs.declared.session.CableLine.{CableLine}
use Rattle.session_script.specs.declared.session.Session.{Session}
use Rattle.graph_order.specs.declared.fault.GraphFault.TheVariants.{Cycle}
use Rattle.graph_order.specs.declared.lines.Broken.{Broken}
use Rattle.graph_order.specs.declared.plan.Plan.{Plan}
use Rattle.graph_order.specs.Lines.{first_broken}
use Rattle.graph_order.specs.Wiring.{feeds, leads, AreWithin}
use Rattle.graph_order.specs.Plans as plans
use Rattle.graph_order.specs.Cycles.{HasCycle, IsAtMost, IsFirstCycle}
use Rattle.graph_order.specs.Search.{reaches, IsLeastFrom, IsFirstThrough, IsOnNone, IsApartBelow}
use Rattle.graph_order.specs.Answer.{IsFaultOf, HasAnswer, fault_at}
use Rattle.graph_order.proofs.Feeding.{feeds_some-one, feeds-within}
use Rattle.graph_order.proofs.Reaching.{reaches-leads, least-on}
use Rattle.graph_order.proofs.Shortening.{none-from-apart}
use Rattle.graph_order.proofs.Stuck.{cycle-from-stuck}
use Rattle.graph_order.proofs.Growing.{growing-none, growing-put, planned}
use Rattle.graph_order.proofs.Least.{first-cycle, first-of}

-- the least number that passes a test
pub record IsLeast (test : ℕ → Bool) (number : ℕ) : Type 0 where
  pub passes : test number ≡ true
  pub least : (less : ℕ) → less < number → test less ≡ false

-- below n a test passes first at some number, or nowhere
pub first-below : (test : ℕ → Bool) (n : ℕ) → ((number : ℕ) × (number < n) × IsLeast test number) ⊎ ((number : ℕ) → number < n → test number ≡ false)
first-below test zero = inr (λ number below. absurd (omega arith))
first-below test (suc n) =
    elim (first-below test n) [
      | inl one ↦ inl (one.0, omega arith, one.2)
      | inr none ↦ elim (cases_Bool (test n)) [
        | inl passes ↦ inl (n, omega arith, record { passes = passes; least = none })
        | inr fails ↦ inr (λ number below. elim (cases_order number n) [
          | inl same ↦ ap test same ∙ fails
          | inr apart ↦ elim apart [
            | inl less ↦ none number less
            | inr more ↦ absurd (omega arith)
          ]
        ])
      ]
    ]

-- the least instance to go on to
pub step-on : (cables : List CableLine) (count to from m : ℕ) → AreWithin count cables → reaches cables to (suc (suc m)) from ≡ true → (via : ℕ) × IsLeast (λ one. feeds cables from one && reaches cables to (suc m) one) via
step-on cables count to from m within reached =
    let one = feeds_some-one cables (reaches cables to (suc m)) from reached in
    let there = feeds-within cables count from one.0 within one.1 in
    let both : (feeds cables from one.0 && reaches cables to (suc m) one.0) ≡ true = and_from (feeds cables from one.0) (reaches cables to (suc m) one.0) one.1 one.2 in
    elim (first-below (λ one. feeds cables from one && reaches cables to (suc m) one) count) [
      | inl least ↦ (least.0, least.2)
      | inr none ↦ absurd (let fails = none one.0 there.1 in cc)
    ]

pub least-none : (cables : List CableLine) (to from : ℕ) → feeds cables from to ≡ true → (other : List ℕ) → length other ≡ 0 → leads cables from other to ≡ true → IsAtMost [] other
least-none cables to from fed other long way = tt

-- over m instances a least list leads on
pub least-way : (cables : List CableLine) (count to m from : ℕ) → AreWithin count cables → reaches cables to (suc m) from ≡ true → (rest : List ℕ) × (length rest ≡ m) × IsLeastFrom cables to from rest
least-way cables count to zero from within reached = ([], refl, record { way = reached; least = least-none cables to from reached })
least-way cables count to (suc m) from within reached =
    let via = step-on cables count to from m within reached in
    let parts = and_parts (feeds cables from via.0) (reaches cables to (suc m) via.0) ((via.1).passes) in
    let behind = least-way cables count to m via.0 within parts.1 in
    let Below : ℕ → Type 0 = λ n. (other : ℕ) → other < via.0 → feeds cables from other ≡ true → reaches cables to (suc n) other ≡ true → ⊥ in
    let none : Below m = λ other less fed reaches_too. (let fails = (via.1).least other less in let both = and_from (feeds cables from other) (reaches cables to (suc m) other) fed reaches_too in cc) in
    (via.0 ∷ behind.0, ap suc behind.1, least-on cables to from via.0 behind.0 parts.0 (subst Below (sym behind.1) none) behind.2)

-- an instance that some way leads back to has a first cycle
pub through : (cables : List CableLine) (count inst m : ℕ) → AreWithin count cables → IsLeast (λ n. reaches cables inst (suc n) inst) m → (cycle : List ℕ) × IsFirstThrough cables inst cycle
through cables count inst m within least =
    let way = least-way cables count inst m inst within least.passes in
    let long : length way.0 ≡ m = way.1 in (
      inst ∷ way.0,
      record {
        least = record { rest = way.0; from = refl; long = omega arith; least = way.2 };
        shortest = λ rest back. (elim (cases_lt (length rest) m) [
          | inl fewer ↦ absurd (let none = least.least (length rest) fewer in let reached = reaches-leads cables inst inst rest back in cc)
          | inr many ↦ omega arith
        ]);
      },
    )

pub apart-from : (cables : List CableLine) (inst count : ℕ) → ((n : ℕ) → n < count → reaches cables inst (suc n) inst ≡ false) → IsApartBelow cables inst (count + 1)
apart-from cables inst count none zero some below = absurd (omega arith)
apart-from cables inst count none (suc n) some below = none n (omega arith)

-- below n an instance is first on a cycle, or none is
pub first-on : (cables : List CableLine) (count n : ℕ) → AreWithin count cables → ((cycle : List ℕ) × IsFirstCycle cables cycle) ⊎ ((less : ℕ) → less < n → IsOnNone cables less)
first-on cables count zero within = inr (λ less below. absurd (omega arith))
first-on cables count (suc n) within =
    elim (first-on cables count n within) [
      | inl found ↦ inl found
      | inr none ↦ elim (first-below (λ m. reaches cables n (suc m) n) count) [
        | inl back ↦ let cycle = through cables count n back.0 within back.2 in inl (cycle.0, first-cycle cables n cycle.0 none cycle.1)
        | inr apart ↦ inr (λ less below. elim (cases_order less n) [
          | inl same ↦ let None : ℕ → Type 0 = λ i. IsOnNone cables i in subst None (sym same) (none-from-apart cables count n within (apart-from cables n count apart))
          | inr differ ↦ elim differ [
            | inl before ↦ none less before
            | inr behind ↦ absurd (omega arith)
          ]
        ])
      ]
    ]

pub some-cycle : (cables : List CableLine) (count : ℕ) → AreWithin count cables → HasCycle cables → (cycle : List ℕ) × IsFirstCycle cables cycle
some-cycle cables count within has =
    elim (first-on cables count count within) [
      | inl found ↦ found
      | inr none ↦ absurd (first-of cables count within has.0 has.1 none)
    ]

abbrev pub IsWired : List CableLine → ℕ → Type 0
IsWired cables count = ((plan : Plan) × plans.IsPlanOf cables count plan) ⊎ ((cycle : List ℕ) × IsFirstCycle cables cycle)

-- a plan that can't grow to all instances shows a cycle
pub grown : (cables : List CableLine) (count fuel : ℕ) (plan : Plan) → AreWithin count cables → plans.IsGrowing cables count plan → length plan.order + fuel ≡ count → IsWired cables count
grown cables count zero plan within growing all = inl (plan, planned cables count plan growing (omega arith))
grown cables count (suc fuel) plan within growing all =
    elim (first-below (plans.is_ready cables plan.order) count) [
      | inl next ↦
          let after : Plan = record { order = plan.order ++ next.0 ∷ []; place = set plan.place next.0 (length plan.order) } in
          let least : plans.IsNext cables count plan.order next.0 = record { there = next.1; ready = (next.2).passes; least = (next.2).least } in
          let more = length_push plan.order next.0 in
          grown cables count fuel after within (growing-put cables count plan after next.0 (length plan.order) growing refl (omega arith) least refl refl) (omega arith)
      | inr stuck ↦ inr (some-cycle cables count within (cycle-from-stuck cables count plan.order within stuck (omega arith)))
    ]

pub wired : (cables : List CableLine) (count : ℕ) → AreWithin count cables → IsWired cables count
wired cables count within =
    let none : Plan = record { order = []; place = replicate count count } in
    grown cables count count none within (growing-none cables count none refl refl) (omega arith)

pub answered : (session : Session) (decls : List Decl) (broken : Option Broken) → first_broken session decls ≡ broken → AreWithin (length session.insts) session.cables → HasAnswer session decls
answered session decls (Some broken) is within =
    let Fault : Option Broken → Type 0 = λ b. IsFaultOf b session.cables (fault_at broken.rule broken.line) in
    inr (fault_at broken.rule broken.line, subst Fault (sym is) refl)
answered session decls None is within =
    elim (wired session.cables (length session.insts) within) [
      | inl plan ↦ inl (plan.0, record { kept = is; plan = plan.1 })
      | inr cycle ↦
          let Fault : Option Broken → Type 0 = λ b. IsFaultOf b session.cables (Cycle cycle.0) in
          inr (Cycle cycle.0, subst Fault (sym is) cycle.1)
    ]
