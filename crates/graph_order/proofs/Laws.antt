-- A session has one answer.
use Rattle.std.proofs.Common.{◌≡◌, ℕ, zero, suc, ◌<◌, ◌≤◌, ◌+◌, true, false, List, [], ◌∷◌, length, get_or, take, eqb, Option, None, Some, sym, ◌∙◌, ap, subst, inl, inr, refl, arith}
use Rattle.std.proofs.lemmas.Bool.{and_parts, cases_order, not-true, eqb-true}
use Rattle.std.proofs.lemmas.List.{take_more_same, take_all, ext_get_or}
use Rattle.session_script.specs.declared.session.CableLine.{CableLine}
use Rattle.graph_order.specs.declared.fault.GraphFault.{GraphFault}
use Rattle.graph_order.specs.declared.fault.GraphFault.TheVariants.{NoPort, Direction, Kind, NoPatch, NoState, Cycle, NoMemory}
use Rattle.graph_order.specs.declared.lines.Broken.{Broken}
use Rattle.graph_order.specs.declared.plan.Plan.{Plan}
use Rattle.graph_order.specs.Wiring.{feeds, leads}
use Rattle.graph_order.specs.Plans.{IsNext, IsLeastFirst, IsPlacing, IsLawful, IsPlanOf}
use Rattle.graph_order.specs.Cycles.{IsCycle, IsAtMost, IsFirstCycle}
use Rattle.graph_order.specs.Answer.{IsFaultOf}
use Rattle.graph_order.proofs.Feeding.{there}

pub one-next : (cables : List CableLine) (count : ℕ) (placed : List ℕ) (a b : ℕ) → IsNext cables count placed a → IsNext cables count placed b → a ≡ b
one-next cables count placed a b first second =
    elim (cases_order a b) [
      | inl same ↦ same
      | inr apart ↦ elim apart [
        | inl below ↦ absurd (let ready = first.ready in let unready = second.least a below in cc)
        | inr above ↦ absurd (let ready = second.ready in let unready = first.least b above in cc)
      ]
    ]

pub same-takes : (cables : List CableLine) (count : ℕ) (a b : List ℕ) → IsLeastFirst cables count a → IsLeastFirst cables count b → (k : ℕ) → k ≤ count → take k a ≡ take k b
same-takes cables count a b first second zero few = refl
same-takes cables count a b first second (suc k) few =
    let before = same-takes cables count a b first second k (omega arith) in
    let Next : List ℕ → Type 0 = λ xs. IsNext cables count xs (get_or a k 0) in
    let one : get_or a k 0 ≡ get_or b k 0 = one-next cables count (take k b) (get_or a k 0) (get_or b k 0) (subst Next before (first.next k (omega arith))) (second.next k (omega arith)) in
    let Taken : ℕ → Type 0 = λ n. take n a ≡ take n b in
    let in_a : k < length a = let all = first.all in omega arith in
    let in_b : k < length b = let all = second.all in omega arith in
    let number : k + 1 ≡ suc k = omega arith in
    subst Taken number (take_more_same a b k 0 in_a in_b before one)

pub one-order : (cables : List CableLine) (count : ℕ) (a b : List ℕ) → IsLeastFirst cables count a → IsLeastFirst cables count b → a ≡ b
one-order cables count a b first second =
    let all_a = first.all in
    let all_b = second.all in
    sym (take_all count a (omega arith)) ∙ same-takes cables count a b first second count (omega arith) ∙ take_all count b (omega arith)

pub one-place : (count : ℕ) (a b : Plan) → a.order ≡ b.order → IsPlacing count a → IsPlacing count b → a.place ≡ b.place
one-place count a b same first second =
    let places : length a.place ≡ count = first.places in
    ext_get_or 0 a.place b.place (first.places ∙ sym second.places) (λ inst within.
    (let there : inst < count = omega arith in
    let at = first.ordered inst there in
    let stands : get_or b.order (get_or a.place inst 0) 0 ≡ inst = ap (λ (xs : List ℕ). get_or xs (get_or a.place inst 0) 0) (sym same) ∙ at.1 in
    sym (ap (λ (i : ℕ). get_or b.place i 0) (sym stands) ∙ (second.placed (get_or a.place inst 0) at.0).1)))

pub one-plan : (cables : List CableLine) (count : ℕ) (a b : Plan) → IsPlanOf cables count a → IsPlanOf cables count b → a ≡ b
one-plan cables count a b first second =
    let order = one-order cables count a.order b.order first.least second.least in
    let place = one-place count a b order first.placing second.placing in
    let made : List ℕ → List ℕ → Plan = λ xs ys. record { order = xs; place = ys } in
    ap (λ (xs : List ℕ). made xs a.place) order ∙ ap (λ (ys : List ℕ). made b.order ys) place

pub same-at-most : (xs ys : List ℕ) → IsAtMost xs ys → IsAtMost ys xs → xs ≡ ys
same-at-most [] [] first second = refl
same-at-most [] (y ∷ ys) first second = absurd second
same-at-most (x ∷ xs) [] first second = absurd first
same-at-most (x ∷ xs) (y ∷ ys) (inl below) (inl above) = absurd (omega arith)
same-at-most (x ∷ xs) (y ∷ ys) (inl below) (inr (same, rest)) = absurd (omega arith)
same-at-most (x ∷ xs) (y ∷ ys) (inr (same, rest)) (inl above) = absurd (omega arith)
same-at-most (x ∷ xs) (y ∷ ys) (inr (same, first)) (inr (back, second)) =
    ap (λ (n : ℕ). n ∷ xs) same ∙ ap (λ (ns : List ℕ). y ∷ ns) (same-at-most xs ys first second)

pub one-cycle : (cables : List CableLine) (a b : List ℕ) → IsFirstCycle cables a → IsFirstCycle cables b → a ≡ b
one-cycle cables a b first second =
    let low = first.least b second.cycle in
    let high = second.least a first.cycle in
    let begin : get_or b 0 0 ≡ get_or a 0 0 = omega arith in
    let short = first.shortest b second.cycle begin in
    let long = second.shortest a first.cycle (sym begin) in
    let same : length b ≡ length a = omega arith in
    same-at-most a b (first.lowest b second.cycle begin same) (second.lowest a first.cycle (sym begin) (sym same))

-- where a plan is lawful, the places rise along the cables
pub fed-later : (cables : List CableLine) (count : ℕ) (plan : Plan) → IsLawful cables count plan → (from to : ℕ) → feeds cables from to ≡ true → get_or plan.place from 0 < get_or plan.place to 0
fed-later cables count plan law from to fed =
    let t = there cables (λ one. eqb one to) from fed in
    let Rises : CableLine → Type 0 = λ cable. cable.delayed ≡ false → get_or plan.place cable.source 0 < get_or plan.place cable.target 0 in
    let rises : Rises t.cable = subst Rises t.at (law.fed t.place t.cable t.within) in
    let up : get_or plan.place t.cable.source 0 < get_or plan.place t.cable.target 0 = rises (not-true t.cable.delayed t.undelayed) in
    let Source : ℕ → Type 0 = λ i. get_or plan.place i 0 < get_or plan.place t.cable.target 0 in
    let Target : ℕ → Type 0 = λ i. get_or plan.place from 0 < get_or plan.place i 0 in
    subst Target (eqb-true t.cable.target to t.into) (subst Source t.from up)

pub led-later : (cables : List CableLine) (count : ℕ) (plan : Plan) → IsLawful cables count plan → (from : ℕ) (rest : List ℕ) (to : ℕ) → leads cables from rest to ≡ true → get_or plan.place from 0 < get_or plan.place to 0
led-later cables count plan law from [] to way = fed-later cables count plan law from to way
led-later cables count plan law from (via ∷ rest) to way =
    let parts = and_parts (feeds cables from via) (leads cables via rest to) way in
    let first = fed-later cables count plan law from via parts.0 in
    let second = led-later cables count plan law via rest to parts.1 in
    omega arith

pub no-cycle : (cables : List CableLine) (count : ℕ) (plan : Plan) → IsLawful cables count plan → (cycle : List ℕ) → IsCycle cables cycle → ⊥
no-cycle cables count plan law [] cycle = cycle
no-cycle cables count plan law (first ∷ rest) cycle =
    let later = led-later cables count plan law first rest first cycle in
    absurd (omega arith)

pub one-fault : (broken : Option Broken) (cables : List CableLine) (a b : GraphFault) → IsFaultOf broken cables a → IsFaultOf broken cables b → a ≡ b
one-fault (Some broken) cables a b first second = first ∙ sym second
one-fault None cables (Cycle a) (Cycle b) first second = ap (λ (xs : List ℕ). Cycle xs) (one-cycle cables a b first second)
one-fault None cables (Cycle a) (NoPort line) first second = absurd second
one-fault None cables (Cycle a) (Direction line) first second = absurd second
one-fault None cables (Cycle a) (Kind line) first second = absurd second
one-fault None cables (Cycle a) (NoPatch line) first second = absurd second
one-fault None cables (Cycle a) (NoState line) first second = absurd second
one-fault None cables (Cycle a) NoMemory first second = absurd second
one-fault None cables (NoPort line) b first second = absurd first
one-fault None cables (Direction line) b first second = absurd first
one-fault None cables (Kind line) b first second = absurd first
one-fault None cables (NoPatch line) b first second = absurd first
one-fault None cables (NoState line) b first second = absurd first
one-fault None cables NoMemory b first second = absurd first
