-- The lists that lead from an instance to another, and how many cables they have.
use Rattle.std.proofs.Common.{◌≡◌, ℕ, suc, ◌<◌, true, List, [], ◌∷◌, length, sym, subst, inl, inr, arith}
use Rattle.std.proofs.lemmas.Bool.{and_parts, and_from, cases_order}
use Rattle.session_script.specs.declared.session.CableLine.{CableLine}
use Rattle.graph_order.specs.Wiring.{feeds, leads}
use Rattle.graph_order.specs.Cycles.{IsAtMost}
use Rattle.graph_order.specs.Search.{reaches, IsLeastFrom}
use Rattle.graph_order.proofs.Feeding.{feeds_some-from}

-- a list that leads on has a cable more than instances between
pub reaches-leads : (cables : List CableLine) (to from : ℕ) (rest : List ℕ) → leads cables from rest to ≡ true → reaches cables to (suc (length rest)) from ≡ true
reaches-leads cables to from [] way = way
reaches-leads cables to from (via ∷ rest) way =
    let parts = and_parts (feeds cables from via) (leads cables via rest to) way in
    feeds_some-from cables (reaches cables to (suc (length rest))) from via parts.0 (reaches-leads cables to via rest parts.1)

-- no list that leads on over as many cables is below the least instance with the least list after it
pub least-at-most : (cables : List CableLine) (to from via : ℕ) (rest : List ℕ) → ((other : ℕ) → other < via → feeds cables from other ≡ true → reaches cables to (suc (length rest)) other ≡ true → ⊥) → IsLeastFrom cables to via rest → (other : List ℕ) → length other ≡ suc (length rest) → leads cables from other to ≡ true → IsAtMost (via ∷ rest) other
least-at-most cables to from via rest none least [] long way = absurd (omega arith)
least-at-most cables to from via rest none least (x ∷ xs) long way =
    let parts = and_parts (feeds cables from x) (leads cables x xs to) way in
    let same : length xs ≡ length rest = omega arith in
    let Reaches : ℕ → Type 0 = λ n. reaches cables to (suc n) x ≡ true in
    let reached : reaches cables to (suc (length rest)) x ≡ true = subst Reaches same (reaches-leads cables to x xs parts.1) in
    let Leads : ℕ → Type 0 = λ n. leads cables n xs to ≡ true in
    elim (cases_order via x) [
      | inl e ↦ inr (e, least.least xs same (subst Leads (sym e) parts.1))
      | inr apart ↦ elim apart [
        | inl below ↦ inl below
        | inr above ↦ absurd (none x above parts.0 reached)
      ]
    ]

-- the least instance to go on to and the least list from there make the least list
pub least-on : (cables : List CableLine) (to from via : ℕ) (rest : List ℕ) → feeds cables from via ≡ true → ((other : ℕ) → other < via → feeds cables from other ≡ true → reaches cables to (suc (length rest)) other ≡ true → ⊥) → IsLeastFrom cables to via rest → IsLeastFrom cables to from (via ∷ rest)
least-on cables to from via rest fed none least = record {
  way = and_from (feeds cables from via) (leads cables via rest to) fed least.way;
  least = least-at-most cables to from via rest none least;
}
