-- From the least of the shortest cycles through an instance to the cycle that is told.
use Rattle.std.proofs.Common.{◌≡◌, ℕ, suc, ◌<◌, ◌≤◌, ◌+◌, ◌-◌, Bool, true, List, [], ◌∷◌, ◌++◌, length, get_or, sym, ◌∙◌, ap, subst, inl, inr, arith}
use Rattle.std.proofs.lemmas.Bool.{cases_lt, and_parts}
use Rattle.std.proofs.lemmas.List.{append_assoc}
use Rattle.session_script.specs.declared.session.CableLine.{CableLine}
use Rattle.graph_order.specs.Wiring.{feeds, leads, AreWithin}
use Rattle.graph_order.specs.Cycles.{IsCycle, IsAtMost, IsFirstCycle}
use Rattle.graph_order.specs.Search.{reaches, IsRowOf, AreRows, IsSearched, IsStep, IsLeastFrom, IsLeastOf, IsFirstThrough, IsOnNone}
use Rattle.graph_order.proofs.Feeding.{feeds-within}
use Rattle.graph_order.proofs.Reaching.{reaches-leads, least-on}

pub not-below : (cables : List CableLine) (inst : ℕ) → ((less : ℕ) → less < inst → IsOnNone cables less) → (other : List ℕ) → IsCycle cables other → inst ≤ get_or other 0 0
not-below cables inst none [] cycle = absurd cycle
not-below cables inst none (first ∷ rest) cycle =
    elim (cases_lt first inst) [
      | inl below ↦ absurd (none first below rest cycle)
      | inr least ↦ least
    ]

pub not-shorter : (cables : List CableLine) (inst n : ℕ) → ((rest : List ℕ) → leads cables inst rest inst ≡ true → n ≤ length rest + 1) → (other : List ℕ) → IsCycle cables other → get_or other 0 0 ≡ inst → n ≤ length other
not-shorter cables inst n shortest [] cycle same = absurd cycle
not-shorter cables inst n shortest (first ∷ rest) cycle same =
    let Back : ℕ → Type 0 = λ i. leads cables i rest i ≡ true in
    let few = shortest rest (subst Back same cycle) in
    omega arith

pub not-lower : (cables : List CableLine) (inst : ℕ) (rest : List ℕ) → IsLeastFrom cables inst inst rest → (other : List ℕ) → IsCycle cables other → get_or other 0 0 ≡ inst → length other ≡ suc (length rest) → IsAtMost (inst ∷ rest) other
not-lower cables inst rest least [] cycle same long = absurd cycle
not-lower cables inst rest least (first ∷ others) cycle same long =
    let Back : ℕ → Type 0 = λ i. leads cables i others i ≡ true in
    inr (sym same, least.least others (omega arith) (subst Back same cycle))

-- who is on a cycle is there
pub first-of : (cables : List CableLine) (count : ℕ) → AreWithin count cables → (cycle : List ℕ) → IsCycle cables cycle → ((less : ℕ) → less < count → IsOnNone cables less) → ⊥
first-of cables count within [] cycle none = cycle
first-of cables count within (first ∷ []) cycle none = none first ((feeds-within cables count first first within cycle).0) [] cycle
first-of cables count within (first ∷ (via ∷ rest)) cycle none =
    none first ((feeds-within cables count first via within ((and_parts (feeds cables first via) (leads cables via rest first) cycle).0)).0) (via ∷ rest) cycle

-- the least list over as many cables as the search found is a first cycle through its instance
pub through-of : (cables : List CableLine) (inst count : ℕ) (rows : List (List Bool)) (cycle : List ℕ) → IsSearched cables inst count rows → IsLeastOf cables inst (length rows) cycle → IsFirstThrough cables inst cycle
through-of cables inst count rows cycle searched least =
    let long : length least.rest + 1 ≡ length rows = least.long in
    let all : length cycle ≡ length least.rest + 1 = ap length least.from ∙ omega arith in
    let Long : ℕ → Type 0 = λ n. IsLeastOf cables inst n cycle in
    record {
      least = subst Long (sym (all ∙ long)) least;
      shortest = λ rest back. (elim (cases_lt (length rest + 1) (length rows)) [
        | inl fewer ↦ absurd (let none = searched.apart (suc (length rest)) (omega arith) (omega arith) in let reached = reaches-leads cables inst inst rest back in cc)
        | inr many ↦ omega arith
      ]);
    }

-- one instance more on the way back
pub record IsWay (cables : List CableLine) (inst n last : ℕ) (rows : List (List Bool)) (cycle : List ℕ) : Type 0 where
  pub below : n < length rows
  pub reached : reaches cables inst (n + 1) last ≡ true
  pub ends : (rest : List ℕ) → length rest ≡ n → IsLeastFrom cables inst last rest → IsLeastOf cables inst (length rows) (cycle ++ rest)

pub way-on : (cables : List CableLine) (inst count n last via : ℕ) (rows : List (List Bool)) (row : List Bool) (cycle after : List ℕ) → AreWithin count cables → AreRows cables inst count rows → 0 < n → row ≡ get_or rows n [] → IsStep cables row last via → after ≡ cycle ++ via ∷ [] → IsWay cables inst n last rows cycle → IsWay cables inst (n - 1) via rows after
way-on cables inst count n last via rows row cycle after within are some same step longer way =
    let below = way.below in
    let Row : List Bool → Type 0 = λ bs. IsRowOf (reaches cables inst n) count bs in
    let is : IsRowOf (reaches cables inst n) count row = subst Row (sym same) (are n way.below) in
    let number : n - 1 + 1 ≡ n = omega arith in
    let Via : ℕ → Type 0 = λ m. reaches cables inst m via ≡ true in
    record {
      below = omega arith;
      reached = subst Via (sym number) (sym (is.same via ((feeds-within cables count last via within step.fed).1)) ∙ step.marked);
      ends = λ rest long least.
          (let tail : suc (length rest) ≡ n = omega arith in
          let none : (other : ℕ) → other < via → feeds cables last other ≡ true → reaches cables inst (suc (length rest)) other ≡ true → ⊥ = λ other less fed reached.
          (let Other : ℕ → Type 0 = λ m. reaches cables inst m other ≡ true in
          step.least other less fed (is.same other ((feeds-within cables count last other within fed).1) ∙ subst Other tail reached)) in
          let whole = way.ends (via ∷ rest) tail (least-on cables inst last via rest step.fed none least) in
          let Ends : List ℕ → Type 0 = λ xs. IsLeastOf cables inst (length rows) xs in
          let joined : after ++ rest ≡ cycle ++ (via ∷ rest) = ap (λ (xs : List ℕ). xs ++ rest) longer ∙ append_assoc cycle (via ∷ []) rest in
          subst Ends (sym joined) whole);
    }

-- the first instance with a cycle, and the least of its shortest cycles
pub first-cycle : (cables : List CableLine) (inst : ℕ) (cycle : List ℕ) → ((less : ℕ) → less < inst → IsOnNone cables less) → IsFirstThrough cables inst cycle → IsFirstCycle cables cycle
first-cycle cables inst cycle none through =
    let rest = through.least.rest in
    let long : length rest + 1 ≡ length cycle = through.least.long in
    let First : List ℕ → Type 0 = λ xs. IsFirstCycle cables xs in
    let first : IsFirstCycle cables (inst ∷ rest) = record {
      cycle = through.least.least.way;
      least = not-below cables inst none;
      shortest = λ other back same. (let few = not-shorter cables inst (length cycle) through.shortest other back same in omega arith);
      lowest = not-lower cables inst rest through.least.least;
    } in
    subst First (sym through.least.from) first
